use Rattle.std.proofs.Common.{◌≡◌, [], ℕ, List, subst}
use Rattle.std.specs.Prelude.{IfOk, string_bytes}
use Rattle.drill.proofs.Drawing.{line-is}
use Rattle.drill.proofs.Having.{has-none}
use Rattle.drill.proofs.line.drill.Goals as goal

pub returns : goal.returns
returns g c =
    let none = has-none c.in_ok-book.book _ c.in_ok-book.ensures in
    let parts = c.in_ok-play_parts.ensures.has (c.in_ok-enrol-2.ensures.has [] [] [] (c.in_ok-enrol.ensures.has [] [] [] none)) in
    let all = c.in_ok-snapshots.ensures.has _ _ _ parts in
    let packages = c.in_ok-packages.ensures.has _ _ all in
    let commits = c.in_ok-commits.ensures.has _ _ packages.0 in
    subst (λ (xs : List ℕ). IfOk c.line.result (λ text. string_bytes text ≡ xs))
    (line-is c.args.seed c.args.size c.in_ok-packages.packages c.in_ok-commits.commits c.in_ok-input.input c.as_slice.result.now c.in_ok-input.ensures c.as_slice.ensures.value packages.1 commits.1) c.line.ensures
