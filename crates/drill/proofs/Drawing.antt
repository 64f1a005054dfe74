-- What is drawn, one behind the other.
use Rattle.std.proofs.Common.{◌≡◌, ℕ, List, ap, ◌∙◌}
use Rattle.std.specs.Prelude.{map}
use Rattle.std.specs.Arc.{arc_value}
use Rattle.rand_pcg.specs.Lcg.{Lcg}
use Rattle.osv_prim.specs.declared.oid.CommitRow.{CommitRow}
use Rattle.osv_record.specs.Advisories.{Advisory}
use Rattle.drill_input.specs.Draws.{seeded}
use Rattle.drill_input.specs.Commits.{commits}
use Rattle.drill_input.specs.Advisories.{advisories}
use Rattle.drill_input.specs.Questions.{asked}
use Rattle.drill_input.specs.declared.question.TheConstants.{QUESTIONS}
use Rattle.drill.specs.Drilled.{IsDrawn, commit_hits, drawn_rows, drawn_advisories, drawn_questions, drilled, line, package_hits}
use Rattle.drill.specs.declared.input.Input.{Input}

pub drawn-is : (seed size : ℕ) (input : Input) (a b c d : Lcg) → a ≡ seeded seed → (input.rows.items, b) ≡ commits size a → (map (λ x. arc_value x) input.advisories.items, c) ≡ advisories size size b → (input.asked.items, d) ≡ asked size QUESTIONS c
    → IsDrawn seed size input
unfolding drawn_rows drawn_advisories drawn_questions
drawn-is seed size input a b c d p q r s =
    let e = q ∙ ap (λ (g : Lcg). commits size g) p in
    let f = r ∙ ap (λ (g : Lcg). advisories size size g) (ap (λ (x : List CommitRow × Lcg). x.1) e) in
    let h = s ∙ ap (λ (g : Lcg). asked size QUESTIONS g) (ap (λ (x : List Advisory × Lcg). x.1) f) in
    record {
      rows = ap (λ (x : List CommitRow × Lcg). x.0) e;
      came = ap (λ (x : List Advisory × Lcg). x.0) f;
      questions = ap (λ (x : List (List ℕ) × Lcg). x.0) h;
    }

-- so the line is that of the drill
pub line-is : (seed size packages commits : ℕ) (input : Input) (asked : List (List ℕ)) → IsDrawn seed size input → asked ≡ input.asked.items → packages ≡ package_hits QUESTIONS (map (λ a. arc_value a) input.advisories.items) input.rows.items
    → commits ≡ commit_hits asked (map (λ a. arc_value a) input.advisories.items) input.rows.items → line size packages commits ≡ drilled seed size
line-is seed size packages commits input asked d e p q =
    let came : List Advisory = map (λ a. arc_value a) input.advisories.items in
    let all : List Advisory = (drawn_advisories seed size).0 in
    let rows : List CommitRow = (drawn_rows seed size).0 in
    let ids : List (List ℕ) = drawn_questions seed size in
    let first : packages ≡ package_hits QUESTIONS all rows =
    p ∙ ap (λ (xs : List Advisory). package_hits QUESTIONS xs input.rows.items) d.came ∙ ap (λ (rs : List CommitRow). package_hits QUESTIONS all rs) d.rows in
    let second : commits ≡ commit_hits ids all rows =
    q ∙ ap (λ (xs : List (List ℕ)). commit_hits xs came input.rows.items) (e ∙ d.questions) ∙ ap (λ (xs : List Advisory). commit_hits ids xs input.rows.items) d.came
    ∙ ap (λ (rs : List CommitRow). commit_hits ids all rs) d.rows in
    ap (λ (n : ℕ). line size n commits) first ∙ ap (λ (n : ℕ). line size (package_hits QUESTIONS all rows) n) second
