-- A text asks one thing.
use Rattle.std.proofs.Common.{◌≡◌, ℕ, List, [], take, drop, Option, Some, None, refl, sym, ap, ◌∙◌, arith}
use Rattle.httparse.specs.Grammar.{RequestHead}
use Rattle.httparse.proofs.GrammarLemmas.{request_unique}
use Rattle.http_wire.specs.declared.room.Room.{Room}
use Rattle.http_wire.specs.Ends.{without_line_ends, head_len, front, IsHead}
use Rattle.http_wire.specs.Requests.{Opening, Outcome, OpensAt, opened, followed, Next}

head-one : (bytes : List ℕ) (a b : Option RequestHead) → IsHead bytes a → IsHead bytes b → a ≡ b
head-one bytes None None p q = refl
head-one bytes None (Some k) p q = absurd (omega (arith, p k q.0, q.1))
head-one bytes (Some h) None p q = absurd (omega (arith, q h p.0, p.1))
head-one bytes (Some h) (Some k) p q = ap Some (request_unique bytes h k [] [] p.0 q.0).0

opens-one : (room : Room) (text : List ℕ) (r : Option ℕ) (o p : Opening) → OpensAt room text r o → OpensAt room text r p → o ≡ p
opens-one room text None o p x y = x ∙ sym y
opens-one room text (Some n) o p x y =
    x.2 ∙ ap (λ (h : Option RequestHead). opened room h (drop n (without_line_ends text))) (head-one (take n (without_line_ends text)) x.0 y.0 x.1 y.1) ∙ sym y.2

pub next-one : (text : List ℕ) (room : Room) (o p : Outcome) → Next room text o → Next room text p → o ≡ p
next-one text room o p x y = x.2 ∙ ap (followed room) (opens-one room text (head_len (front text)) x.0 y.0 x.1 y.1) ∙ sym y.2
