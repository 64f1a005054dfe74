-- What a drill asks (our own).
use Rattle.std.specs.Prelude.{ℕ, zero, suc, List, [], ◌∷◌, ◌++◌, Some, codes, decimal}
use Rattle.rand_pcg.specs.Lcg.{Lcg}
use Rattle.osv_prim.specs.declared.subject.Subject.{Subject}
use Rattle.osv_prim.specs.declared.subject.Subject.TheVariants.{Package}
use Rattle.osv_prim.specs.Packages.{normal_name}
use Rattle.drill_input.specs.Draws.{drawn_id}

abbrev pub package_name : ℕ → List ℕ
package_name number = codes "p" ++ decimal number

-- a package, by its number, in version 1.50.0
unfoldable pub package_question : ℕ → Subject
package_question number = Package (record { ecosystem = codes "npm"; name = normal_name (codes "npm") (package_name number) }) (Some (codes "1.50.0"))

-- so many ids of the first `size` commits, and the generator after them
abbrev pub asked : ℕ → ℕ → Lcg → List (List ℕ) × Lcg
asked size zero g = ([], g)
asked size (suc n) g = let before = asked size n g in (before.0 ++ (drawn_id size before.1).0 ∷ [], (drawn_id size before.1).1)

abbrev pub repo_url : List ℕ
repo_url = codes "https://drill.example/r"
