-- What a drill prints (our own).
use Rattle.std.specs.Arc.{arc_value}
use Rattle.std.specs.Prelude.{◌≡◌, ℕ, zero, suc, ◌+◌, List, [], ◌∷◌, ◌++◌, length, sum_by, map, codes, decimal}
use Rattle.rand_pcg.specs.Lcg.{Lcg}
use Rattle.osv_prim.specs.declared.oid.CommitRow.{CommitRow}
use Rattle.osv_prim.specs.declared.subject.Subject.{Subject}
use Rattle.osv_prim.specs.declared.subject.Subject.TheVariants.{Commit}
use Rattle.osv_prim.specs.Graphs.{joined}
use Rattle.osv_record.specs.Advisories.{Advisory}
use Rattle.evaluate.specs.Hits.{hits}
use Rattle.drill_input.specs.Draws.{seeded}
use Rattle.drill_input.specs.Commits.{commits}
use Rattle.drill_input.specs.Advisories.{advisories}
use Rattle.drill_input.specs.Questions.{asked, package_question}
use Rattle.drill_input.specs.declared.question.TheConstants.{QUESTIONS}
use Rattle.drill.specs.Imported.{drill_key}
use Rattle.drill.specs.declared.input.Input.{Input}

-- how many of these advisories hit, over one repository with these rows
unfoldable pub all_hits : List Advisory → List CommitRow → Subject → ℕ
all_hits imported rows subject = length (hits imported ((drill_key, joined [] rows) ∷ []) subject)

-- the hits of the first so many packages together
unfoldable pub package_hits : ℕ → List Advisory → List CommitRow → ℕ
package_hits zero imported rows = 0
package_hits (suc n) imported rows = package_hits n imported rows + all_hits imported rows (package_question n)

-- the hits of these commits together
unfoldable pub commit_hits : List (List ℕ) → List Advisory → List CommitRow → ℕ
commit_hits ids imported rows = sum_by (λ id. all_hits imported rows (Commit id)) ids

-- ---- all that is drawn, one behind the other: commits, advisories, and the commits that are asked for

unfoldable pub drawn_rows : ℕ → ℕ → List CommitRow × Lcg
drawn_rows seed size = commits size (seeded seed)

unfoldable pub drawn_advisories : ℕ → ℕ → List Advisory × Lcg
drawn_advisories seed size = advisories size size (drawn_rows seed size).1

unfoldable pub drawn_questions : ℕ → ℕ → List (List ℕ)
drawn_questions seed size = (asked size QUESTIONS (drawn_advisories seed size).1).0

-- the line of a drill: its entries are the advisories, four uploads of commits and four publications
unfoldable pub line : ℕ → ℕ → ℕ → List ℕ
line size packages commits =
    codes "entries " ++ (decimal (size + 8) ++ (codes " snapshots 4 records " ++ (decimal size ++ (codes " commits " ++ (decimal size
    ++ (codes " package-hits " ++ (decimal packages ++ (codes " commit-hits " ++ (decimal commits ++ codes "\n")))))))))

abbrev pub drilled : ℕ → ℕ → List ℕ
drilled seed size =
    line size (package_hits QUESTIONS (drawn_advisories seed size).0 (drawn_rows seed size).0)
    (commit_hits (drawn_questions seed size) (drawn_advisories seed size).0 (drawn_rows seed size).0)

-- what was drawn is this
pub record IsDrawn (seed size : ℕ) (input : Input) : Type 0 where
  pub rows : input.rows.items ≡ (drawn_rows seed size).0
  pub came : map (λ a. arc_value a) input.advisories.items ≡ (drawn_advisories seed size).0
  pub questions : input.asked.items ≡ drawn_questions seed size
