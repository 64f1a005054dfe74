-- A body part by part.
use Rattle.std.proofs.Common.{◌≡◌, ◌≢◌, ℕ, List, [], ◌++◌, length, Option, Some, None, refl, sym, ap, ◌∙◌}
use Rattle.std.specs.Prelude.{Result, Ok, Err, IfOk, IfErr}
use Rattle.std.proofs.lemmas.List.{append-nil}
use Rattle.osv_prim.specs.declared.oid.CommitRow.{CommitRow}
use Rattle.fast_export.specs.declared.fault.StreamFault.{StreamFault}
use Rattle.fast_export.specs.declared.fault.StreamFault.TheVariants as faults
use Rattle.fast_export.specs.declared.reader.Reader.{Reader}
use Rattle.fast_export.specs.Reads.{Reads}
use Rattle.fast_export.specs.Stream.{stream, answer}
use Rattle.http_wire.specs.declared.body.ReadBody.TheVariants as body_is
use Rattle.http_wire.specs.declared.fault.WireFault.{WireFault}
use Rattle.http_wire.specs.declared.rest.Part.TheVariants as parts
use Rattle.http_wire.specs.declared.rest.Rest.{Rest}
use Rattle.http_wire.specs.Chunks.{Body, Whole, Bad, Short, behind}
use Rattle.http_wire.specs.Rests.{left_of, PartOf, ReadSoFar}
use Rattle.http_wire.specs.Wholes.{BodyTells}
use Rattle.http_wire.proofs.Chunked.{behind-behind}
use Rattle.stream_body.specs.Streams.{Comes, IsWhole}

behind-none : (b : Body) → b ≡ behind [] b
behind-none (Whole bytes rest) = refl
behind-none (Bad e) = refl
behind-none Short = refl

pub so_far-none : (r : Rest) (text : Option (List ℕ)) → ReadSoFar r text [] r text
so_far-none r None = tt
so_far-none r (Some text) = behind-none (left_of r text)

pub so_far-more : (old mid new : Rest) (before text left : Option (List ℕ)) (bytes part : List ℕ) → ReadSoFar old before bytes mid text → PartOf mid text parts.More part new left → ReadSoFar old before (bytes ++ part) new left
so_far-more old mid new None text left bytes part h p = tt
so_far-more old mid new (Some before) None left bytes part h p = absurd h
so_far-more old mid new (Some before) (Some text) None bytes part h p = absurd cc
so_far-more old mid new (Some before) (Some text) (Some left) bytes part h p =
    let same : p.0 ≡ left = cc in
    h ∙ ap (behind bytes) (p.4 ∙ ap (λ (l : List ℕ). behind part (left_of new l)) same) ∙ sym (behind-behind bytes part (left_of new left))

pub so_far-whole : (old mid new : Rest) (before text left : Option (List ℕ)) (bytes part : List ℕ) → ReadSoFar old before bytes mid text → PartOf mid text parts.Done part new left → IsWhole old before bytes left
so_far-whole old mid new None text left bytes part h p = tt
so_far-whole old mid new (Some before) None left bytes part h p = absurd h
so_far-whole old mid new (Some before) (Some text) left bytes part h p =
    (p.1, p.2, h ∙ ap (behind bytes) p.3 ∙ ap (λ (l : List ℕ). Whole l p.1) (append-nil bytes))

pub so_far-refused : (old mid new : Rest) (before text left : Option (List ℕ)) (bytes part : List ℕ) (e : WireFault) → ReadSoFar old before bytes mid text → PartOf mid text (parts.Refused e) part new left → BodyTells old before (body_is.Refused e) left
so_far-refused old mid new None text left bytes part e h p = tt
so_far-refused old mid new (Some before) None left bytes part e h p = absurd h
so_far-refused old mid new (Some before) (Some text) left bytes part e h p = h ∙ ap (behind bytes) p.1

pub so_far-short : (old mid new : Rest) (before text left : Option (List ℕ)) (bytes part : List ℕ) → ReadSoFar old before bytes mid text → PartOf mid text parts.Truncated part new left → BodyTells old before body_is.Truncated left
so_far-short old mid new None text left bytes part h p = tt
so_far-short old mid new (Some before) None left bytes part h p = absurd h
so_far-short old mid new (Some before) (Some text) left bytes part h p = h ∙ ap (behind bytes) p.1

-- what the reader of a stream answers at its end
pub comes : (most : ℕ) (bytes : List ℕ) (reader : Reader) (r : Result (List CommitRow) StreamFault) → Reads most bytes reader
    → IfOk r (λ rows. (m : ℕ) (fed : List ℕ) → Reads m fed reader → answer (length fed) (stream fed m) ≡ Ok rows)
    → IfErr r (λ e. e ≢ faults.Memory → (m : ℕ) (fed : List ℕ) → Reads m fed reader → answer (length fed) (stream fed m) ≡ Err e)
    → Comes most bytes r
comes most bytes reader (Ok rows) h ok err = ok most bytes h
comes most bytes reader (Err e) h ok err = λ n. err n most bytes h
