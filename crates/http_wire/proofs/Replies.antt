-- The texts of replies.
use Rattle.std.proofs.Common.{◌≡◌, ℕ, ◌+◌, ◌-◌, ◌≤◌, List, [], ◌∷◌, ◌++◌, length, take, Option, refl, sym, ap, ◌∙◌, arith, append_assoc}
use Rattle.std.specs.Prelude.{codes, decimal, flat_map}
use Rattle.std.specs.Fmt.{digits}
use Rattle.std.specs.Io.KnownBytes.{Appends}
use Rattle.std.proofs.lemmas.Grind.{flat_map-append}
use Rattle.std.proofs.lemmas.List.{append-nil}
use Rattle.edge_io.proofs.Known.{Appends-then}
use Rattle.http_wire.specs.declared.reply.Reply.{Reply}
use Rattle.http_wire.specs.Fields.{Header}
use Rattle.http_wire.specs.Replies.{field_line, snapshot_fields, allow_fields, close_fields, fields_of, status_line, head_of, spelled, no_memory}
use Rattle.http_wire.proofs.Texts.{take-longer}

pub memory-text : codes "HTTP/1.1 503 Service Unavailable\r\ncontent-type: application/json\r\ncontent-length: 30\r\nconnection: close\r\n\r\n{\"code\":22,\"message\":\"memory\"}" ≡ spelled no_memory
unfolding spelled head_of fields_of status_line digits
memory-text = refl

assoc : (s a b c d e f : List ℕ) → (((((([] ++ s) ++ a) ++ b) ++ c) ++ d) ++ e) ++ f ≡ s ++ ((a ++ (b ++ (c ++ (d ++ e)))) ++ f)
assoc s a b c d e f = simp (append_assoc)

lines-of : (a b : Header) (xs ys zs : List Header) → flat_map field_line (a ∷ b ∷ (xs ++ (ys ++ zs))) ≡ field_line a ++ (field_line b ++ (flat_map field_line xs ++ (flat_map field_line ys ++ flat_map field_line zs)))
lines-of a b xs ys zs =
    ap (λ (l : List ℕ). field_line a ++ (field_line b ++ l)) (flat_map-append field_line xs (ys ++ zs) ∙ ap (λ (l : List ℕ). flat_map field_line xs ++ l) (flat_map-append field_line ys zs))

-- a head that is put together line by line
pub head-text : (r : Reply) (line o0 o1 o2 o3 o4 o5 o6 o7 : List ℕ) → o0 ≡ [] → line ≡ status_line r.status → o1 ≡ o0 ++ line → o2 ≡ o1 ++ codes "content-type: application/json\r\n"
    → o3 ≡ o2 ++ (codes "content-length: " ++ (decimal (length r.body) ++ codes "\r\n")) → o4 ≡ o3 ++ flat_map field_line (snapshot_fields r.snapshot)
    → o5 ≡ o4 ++ flat_map field_line (allow_fields r.allow) → o6 ≡ o5 ++ flat_map field_line (close_fields r.close) → o7 ≡ o6 ++ codes "\r\n" → o7 ≡ head_of r
unfolding head_of fields_of
head-text r line o0 o1 o2 o3 o4 o5 o6 o7 e0 el e1 e2 e3 e4 e5 e6 e7 =
    let a = codes "content-type: application/json\r\n" in
    let b = codes "content-length: " ++ (decimal (length r.body) ++ codes "\r\n") in
    let c = flat_map field_line (snapshot_fields r.snapshot) in
    let d = flat_map field_line (allow_fields r.allow) in
    let e = flat_map field_line (close_fields r.close) in
    let f = codes "\r\n" in
    e7 ∙ ap (λ (l : List ℕ). l ++ f) (e6 ∙ ap (λ (l : List ℕ). l ++ e) (e5 ∙ ap (λ (l : List ℕ). l ++ d) (e4 ∙ ap (λ (l : List ℕ). l ++ c)
    (e3 ∙ ap (λ (l : List ℕ). l ++ b) (e2 ∙ ap (λ (l : List ℕ). l ++ a) (e1 ∙ ap (λ (l : List ℕ). l ++ line) e0))))))
    ∙ assoc line a b c d e f ∙ ap (λ (l : List ℕ). l ++ ((a ++ (b ++ (c ++ (d ++ e)))) ++ f)) el
    ∙ ap (λ (l : List ℕ). status_line r.status ++ (l ++ f))
    (sym (lines-of (codes "content-type", codes "application/json") (codes "content-length", decimal (length r.body)) (snapshot_fields r.snapshot) (allow_fields r.allow) (close_fields r.close)))

-- one text and the front of another
pub appends-front : (a b c : Option (List ℕ)) (xs ys : List ℕ) (n : ℕ) → Appends a b xs → Appends b c (take n ys) → Appends a c (take (length xs + n) (xs ++ ys))
appends-front a b c xs ys n p q =
    let rest : length xs + n - length xs ≡ n = omega arith in
    let e : take (length xs + n) (xs ++ ys) ≡ xs ++ take n ys = take-longer (length xs + n) xs ys (omega arith) ∙ ap (λ j. xs ++ take j ys) rest in
    rw e (Appends-then a b c xs (take n ys) p q)
