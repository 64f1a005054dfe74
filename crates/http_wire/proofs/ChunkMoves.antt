-- Steps between the bytes of chunks.
use Rattle.std.proofs.Common.{◌≡◌, ℕ, suc, zero, ◌+◌, ◌-◌, ◌<◌, ◌≤◌, Bool, true, false, cond, ltb, eqb, List, [], ◌∷◌, ◌++◌, length, take, drop, Option, Some, None, length-append, refl, sym, ap, ◌∙◌, arith}
use Rattle.std.specs.Io.KnownBytes.{Keeps, IsAtEnd, prepend_known}
use Rattle.std.proofs.lemmas.List.{append-nil, drop-append-le}
use Rattle.http_wire.specs.declared.fault.WireFault.TheVariants as faults
use Rattle.http_wire.specs.declared.chunk.Step.{Step}
use Rattle.http_wire.specs.declared.chunk.Step.TheVariants as steps
use Rattle.http_wire.specs.declared.rest.Stage.{Stage}
use Rattle.http_wire.specs.declared.rest.Stage.TheVariants as stages
use Rattle.http_wire.specs.declared.rest.Part.TheVariants as parts
use Rattle.http_wire.specs.declared.taking.Taken.TheVariants as taken
use Rattle.http_wire.specs.declared.line.LineEnd.TheVariants as ends
use Rattle.http_wire.specs.Bytes.{begins_crlf, without_cr, Lined, Line, TooLong, Cut, line_of}
use Rattle.http_wire.specs.Chunks.{Body, Bad, most_line, chunk_size, chunk, on_size, trailers, on_trailer, behind_trailer}
use Rattle.http_wire.specs.Parts.{chunks_from, goes, Took, TookBehind, GivesOf, GivesBehind}
use Rattle.http_wire.specs.Lineds.{EndsSo}
use Rattle.http_wire.specs.Moves.{Moved, Moves, next_of, trailer_of}
use Rattle.http_wire.proofs.Sized.{sized-none}
use Rattle.http_wire.proofs.Chunked.{shorter, chunk-line, chunk-line-long, chunk-line-cut, chunk-closes, chunk-bad, chunk-short, chunk-part}

size-moved : (limit sum : ℕ) (rest : List ℕ) (o : Option ℕ) (b : Body) → b ≡ on_size (chunks_from limit) limit sum rest o → Moved limit b (next_of limit sum o) rest
unfolding next_of
size-moved limit sum rest None b e = e
size-moved limit sum rest (Some size) b e = cases (eqb size 0) (ltb limit (sum + size)) e
  where
    cases : (x y : Bool) → b ≡ cond x (goes limit (stages.Trailers 65536) rest) (cond y (Bad (faults.BodyTooLarge limit)) (goes limit (stages.Chunk size (sum + size)) rest))
        → Moved limit b (cond x (steps.Stage (stages.Trailers 65536)) (cond y (steps.Refused (faults.BodyTooLarge limit)) (steps.Stage (stages.Chunk size (sum + size))))) rest
    cases true y e = e
    cases false true e = e
    cases false false e = e

pub moves-at : (limit sum n : ℕ) (before left : Option (List ℕ)) (held new : List ℕ) (next : Step) → EndsSo 1024 held left (ends.At n) → Keeps before (prepend_known held left)
    → new ≡ drop (n + 1) held → next ≡ next_of limit sum (chunk_size (take n held)) → Moves limit (stages.Line sum) before next (prepend_known new left)
moves-at limit sum n None left held new next e k d is = tt
moves-at limit sum n (Some text) None held new next e k d is = absurd k
moves-at limit sum n (Some text) (Some left) held new next e k d is =
    let lined : line_of most_line text ≡ Line (take n held) (new ++ left) = ap (line_of most_line) (sym k) ∙ e.2 left ∙ ap (λ (l : List ℕ). Line (take n held) (l ++ left)) (sym d) in
    rw is (size-moved limit sum (new ++ left) (chunk_size (take n held)) (chunks_from limit sum text) (chunk-line limit sum text (take n held) (new ++ left) lined))

pub moves-long : (limit sum : ℕ) (before left : Option (List ℕ)) (held : List ℕ) → EndsSo 1024 held left ends.TooLong → Keeps before (prepend_known held left)
    → Moves limit (stages.Line sum) before (steps.Refused faults.BadChunk) (prepend_known held left)
moves-long limit sum None left held e k = tt
moves-long limit sum (Some text) None held e k = absurd k
moves-long limit sum (Some text) (Some left) held e k = chunk-line-long limit sum text (ap (line_of most_line) (sym k) ∙ e left)

pub moves-cut : (limit sum : ℕ) (before left : Option (List ℕ)) (held : List ℕ) → EndsSo 1024 held left ends.Cut → Keeps before (prepend_known held left)
    → Moves limit (stages.Line sum) before steps.Truncated (prepend_known held left)
moves-cut limit sum None left held e k = tt
moves-cut limit sum (Some text) None held e k = absurd k
moves-cut limit sum (Some text) (Some left) held e k =
    let same : text ≡ held = sym k ∙ ap (λ (l : List ℕ). held ++ l) e.0 ∙ append-nil held in
    chunk-line-cut limit sum text (ap (line_of most_line) same ∙ e.1)

-- ---- the CR LF behind a chunk

crlf-in-front : (held left : List ℕ) → 2 ≤ length held → begins_crlf (held ++ left) ≡ begins_crlf held
crlf-in-front [] left le = absurd (omega arith)
crlf-in-front (c ∷ []) left le = absurd (omega arith)
crlf-in-front (c ∷ d ∷ cs) left le = refl

pub closes : (limit sum : ℕ) (before left : Option (List ℕ)) (held new : List ℕ) → 2 ≤ length held → Keeps before (prepend_known held left) → begins_crlf held ≡ true → new ≡ drop 2 held
    → Moves limit (stages.Chunk 0 sum) before (steps.Stage (stages.Line sum)) (prepend_known new left)
closes limit sum None left held new le k e d = tt
closes limit sum (Some text) None held new le k e d = absurd k
closes limit sum (Some text) (Some left) held new le k e d =
    let cut : drop 2 text ≡ new ++ left = ap (drop 2) (sym k) ∙ drop-append-le 2 held left le ∙ ap (λ (l : List ℕ). l ++ left) (sym d) in
    chunk-closes (chunks_from limit sum) text (omega (arith, ap length k, length-append held left)) (ap begins_crlf (sym k) ∙ crlf-in-front held left le ∙ e) ∙ ap (chunks_from limit sum) cut

pub closes-bad : (limit sum : ℕ) (before left : Option (List ℕ)) (held : List ℕ) → 2 ≤ length held → Keeps before (prepend_known held left) → begins_crlf held ≡ false
    → Moves limit (stages.Chunk 0 sum) before (steps.Refused faults.BadChunk) (prepend_known held left)
closes-bad limit sum None left held le k e = tt
closes-bad limit sum (Some text) None held le k e = absurd k
closes-bad limit sum (Some text) (Some left) held le k e =
    chunk-bad (chunks_from limit sum) text (omega (arith, ap length k, length-append held left)) (ap begins_crlf (sym k) ∙ crlf-in-front held left le ∙ e)

pub closes-short : (limit sum : ℕ) (before left : Option (List ℕ)) (held : List ℕ) → length held < 2 → IsAtEnd left → Keeps before (prepend_known held left)
    → Moves limit (stages.Chunk 0 sum) before steps.Truncated (prepend_known held left)
closes-short limit sum None left held lt z k = tt
closes-short limit sum (Some text) None held lt z k = absurd k
closes-short limit sum (Some text) (Some left) held lt z k =
    let same : text ≡ held = sym k ∙ ap (λ (l : List ℕ). held ++ l) z ∙ append-nil held in
    chunk-short (chunks_from limit sum) 0 text (omega (arith, ap length same))

-- ---- lines of trailers

trailer-same : (f g : List ℕ → Body) (rest : List ℕ) (o : Option (List ℕ)) → f rest ≡ g rest → behind_trailer f rest o ≡ behind_trailer g rest o
trailer-same f g rest None e = refl
trailer-same f g rest (Some []) e = refl
trailer-same f g rest (Some (c ∷ cs)) e = e

trailers-same : (f g : ℕ → List ℕ → Body) (room : ℕ) (text : List ℕ) (o : Lined) → ((line rest : List ℕ) → o ≡ Line line rest → length rest < length text)
    → ((r : ℕ) (t : List ℕ) → length t < length text → f r t ≡ g r t) → on_trailer f room o ≡ on_trailer g room o
trailers-same f g room text Cut s h = refl
trailers-same f g room text TooLong s h = refl
trailers-same f g room text (Line line rest) s h =
    trailer-same (f (room - (length line + 1))) (g (room - (length line + 1))) rest (without_cr line) (h (room - (length line + 1)) rest (s line rest refl))

turns : (n m room : ℕ) (text : List ℕ) → length text < n → length text < m → trailers n room text ≡ trailers m room text
unfolding trailers
turns zero m room text a b = absurd (omega arith)
turns (suc n) zero room text a b = absurd (omega arith)
turns (suc n) (suc m) room text a b =
    trailers-same (trailers n) (trailers m) room text (line_of room text) (shorter room text) (λ r t lt. turns n m r t (omega arith) (omega arith))

trailers-step : (room : ℕ) (text : List ℕ) → trailers (suc (length text)) room text ≡ on_trailer (trailers (length text)) room (line_of room text)
unfolding trailers
trailers-step room text = refl

trailer-moved : (limit room : ℕ) (text line rest : List ℕ) → line_of room text ≡ Line line rest → Moved limit (trailers (suc (length text)) room text) (trailer_of room line (without_cr line)) rest
unfolding trailer_of
trailer-moved limit room text line rest e =
    let lt = shorter room text line rest e in
    let b : trailers (suc (length text)) room text ≡ behind_trailer (trailers (length text) (room - (length line + 1))) rest (without_cr line) = trailers-step room text ∙ ap (on_trailer (trailers (length text)) room) e in
    cases (without_cr line) (trailers (suc (length text)) room text) b (turns (length text) (suc (length rest)) (room - (length line + 1)) rest lt (omega arith))
  where
    cases : (o : Option (List ℕ)) (b : Body) → b ≡ behind_trailer (trailers (length text) (room - (length line + 1))) rest o
        → trailers (length text) (room - (length line + 1)) rest ≡ trailers (suc (length rest)) (room - (length line + 1)) rest → Moved limit b (trailer_of room line o) rest
    cases None b e f = e
    cases (Some []) b e f = e ∙ sym (sized-none rest)
    cases (Some (c ∷ cs)) b e f = e ∙ f

pub trailer-at : (limit room n : ℕ) (before left : Option (List ℕ)) (held new : List ℕ) (next : Step) → EndsSo room held left (ends.At n) → Keeps before (prepend_known held left)
    → new ≡ drop (n + 1) held → next ≡ trailer_of room (take n held) (without_cr (take n held)) → Moves limit (stages.Trailers room) before next (prepend_known new left)
trailer-at limit room n None left held new next e k d is = tt
trailer-at limit room n (Some text) None held new next e k d is = absurd k
trailer-at limit room n (Some text) (Some left) held new next e k d is =
    let lined : line_of room text ≡ Line (take n held) (new ++ left) = ap (line_of room) (sym k) ∙ e.2 left ∙ ap (λ (l : List ℕ). Line (take n held) (l ++ left)) (sym d) in
    rw is (trailer-moved limit room text (take n held) (new ++ left) lined)

pub trailer-long : (limit room : ℕ) (before left : Option (List ℕ)) (held : List ℕ) → EndsSo room held left ends.TooLong → Keeps before (prepend_known held left)
    → Moves limit (stages.Trailers room) before (steps.Refused faults.BadChunk) (prepend_known held left)
trailer-long limit room None left held e k = tt
trailer-long limit room (Some text) None held e k = absurd k
trailer-long limit room (Some text) (Some left) held e k = trailers-step room text ∙ ap (on_trailer (trailers (length text)) room) (ap (line_of room) (sym k) ∙ e left)

pub trailer-cut : (limit room : ℕ) (before left : Option (List ℕ)) (held : List ℕ) → EndsSo room held left ends.Cut → Keeps before (prepend_known held left)
    → Moves limit (stages.Trailers room) before steps.Truncated (prepend_known held left)
trailer-cut limit room None left held e k = tt
trailer-cut limit room (Some text) None held e k = absurd k
trailer-cut limit room (Some text) (Some left) held e k =
    let same : text ≡ held = sym k ∙ ap (λ (l : List ℕ). held ++ l) e.0 ∙ append-nil held in
    trailers-step room text ∙ ap (on_trailer (trailers (length text)) room) (ap (line_of room) same ∙ e.1)

-- ---- the bytes of a chunk

more-chunk : (limit n m k sum : ℕ) (before after : Option (List ℕ)) (bytes : List ℕ) → m ≤ n → Took m before (taken.Bytes k) bytes after → GivesOf limit (stages.Chunk n sum) before parts.More bytes (stages.Chunk (n - k) sum) after
more-chunk limit n m k sum None after bytes le t = tt
more-chunk limit n m k sum (Some text) None bytes le t = absurd t.4
more-chunk limit n m k sum (Some text) (Some rest) bytes le t =
    (rest, refl, omega (arith, t.0, t.1), omega (arith, t.0, t.3), ap (chunk (chunks_from limit sum) n) t.4 ∙ chunk-part (chunks_from limit sum) n k bytes rest t.0 (omega (arith, t.2, le)))

pub chunk-gives : (limit n m k sum : ℕ) (before after : Option (List ℕ)) (part part_now : List ℕ) → m ≤ n → TookBehind m before part (taken.Bytes k) part_now after
    → GivesBehind limit (stages.Chunk n sum) before part parts.More part_now (stages.Chunk (n - k) sum) after
chunk-gives limit n m k sum before after part part_now le t = (t.0, t.1, more-chunk limit n m k sum before after t.0 le t.2)

ends-chunk : (limit n m sum : ℕ) (before after : Option (List ℕ)) (bytes : List ℕ) (new : Stage) → Took m before taken.Ended bytes after → GivesOf limit (stages.Chunk n sum) before parts.Truncated bytes new after
ends-chunk limit n m sum None after bytes new t = tt
ends-chunk limit n m sum (Some text) after bytes new t = (t.0, chunk-short (chunks_from limit sum) n text (omega (arith, ap length t.1)))

pub chunk-ends : (limit n m sum : ℕ) (before after : Option (List ℕ)) (part part_now : List ℕ) (new : Stage) → TookBehind m before part taken.Ended part_now after
    → GivesBehind limit (stages.Chunk n sum) before part parts.Truncated part_now new after
chunk-ends limit n m sum before after part part_now new t = (t.0, t.1, ends-chunk limit n m sum before after t.0 new t.2)
