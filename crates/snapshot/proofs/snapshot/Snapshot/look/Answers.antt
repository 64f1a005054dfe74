use Rattle.std.proofs.Common.{◌≡◌, ℕ, List, [], length, refl, sym, ap, subst, ◌∙◌, arith}
use Rattle.std.specs.Prelude.{IfOk, Option, Some, None, option_map, filter}
use Rattle.osv_prim.specs.declared.package.PackageKey.{PackageKey}
use Rattle.osv_prim.specs.declared.subject.Subject.{Subject}
use Rattle.osv_prim.specs.declared.subject.Subject.TheVariants.{Package, Commit, CommitIn}
use Rattle.history.specs.Prefixes.{records}
use Rattle.package_index.specs.Listing.{listed}
use Rattle.snapshot.specs.Pages.{is_above, cut, page, found_seen}
use Rattle.snapshot.specs.Subjects.{is_package_hit}
use Rattle.evaluate.specs.Kept.{commit_subject}
use Rattle.repo_index.specs.Listing.{is_git_hit, hit_indexes}
use Rattle.snapshot.proofs.Listed.{listed-fewer, indexes-fewer}
use Rattle.snapshot.proofs.snapshot.Snapshot.look.Goals as goal

pub returns-in-Package-clause-page : goal.returns-in-Package-clause-page
returns-in-Package-clause-page g c = λ p s.
    let after : Option (List ℕ) = option_map (λ id. id.now) c.args.after in
    subst (λ (x : Subject). IfOk c.by_package.result (λ found. found_seen found ≡ page p x after c.args.size)) (sym c.in-Package.is)
    (subst (λ (v : Option (List ℕ)). IfOk c.by_package.result (λ found. found_seen found ≡ cut c.args.size (filter (is_above after) (filter (is_package_hit c.in-Package.asked v) (records p))))) c.as_text.ensures (c.by_package.ensures.page p s))

pub returns-in-Package-clause-records : goal.returns-in-Package-clause-records
returns-in-Package-clause-records g c = λ p s. omega (arith, c.by_package.ensures.listed p s, listed-fewer c.in-Package.asked 0 (records p))

-- the key that is asked for
abbrev key : Subject → PackageKey → PackageKey
key (Package asked version) other = asked
key (Commit commit) other = other
key (CommitIn commit asked) other = other

pub returns-in-Package-clause-listed : goal.returns-in-Package-clause-listed
returns-in-Package-clause-listed g c = λ p asked version s is.
    let same : c.in-Package.asked ≡ asked = ap (λ (x : Subject). key x asked) (sym c.in-Package.is ∙ is) in
    omega (arith, c.by_package.ensures.listed p s, ap (λ (k : PackageKey). length (listed (records p) k)) same)

pub returns-in-Commit-clause-listed : goal.returns-in-Commit-clause-listed
returns-in-Commit-clause-listed g c = λ p asked version s is. absurd (let other = sym c.in-Commit.is ∙ is in cc)

pub returns-in-CommitIn-clause-listed : goal.returns-in-CommitIn-clause-listed
returns-in-CommitIn-clause-listed g c = λ p asked version s is. absurd (let other = sym c.in-CommitIn.is ∙ is in cc)

pub returns-in-Commit-clause-page : goal.returns-in-Commit-clause-page
returns-in-Commit-clause-page g c = λ p s.
    let after : Option (List ℕ) = option_map (λ id. id.now) c.args.after in
    subst (λ (x : Subject). IfOk c.by_commit.result (λ found. found_seen found ≡ page p x after c.args.size)) (sym c.in-Commit.is) (c.by_commit.ensures.page p s)

pub returns-in-CommitIn-clause-page : goal.returns-in-CommitIn-clause-page
returns-in-CommitIn-clause-page g c = λ p s.
    let after : Option (List ℕ) = option_map (λ id. id.now) c.args.after in
    subst (λ (x : Subject). IfOk c.by_commit-in-CommitIn.result (λ found. found_seen found ≡ page p x after c.args.size)) (sym c.in-CommitIn.is) (c.by_commit-in-CommitIn.ensures.page p s)

-- the commit that is asked for
abbrev commit_of : Subject → List ℕ → List ℕ
commit_of (Package asked version) other = other
commit_of (Commit commit) other = commit
commit_of (CommitIn commit asked) other = commit

commit_of-is : (commit : List ℕ) (asked : Option PackageKey) (other : List ℕ) → commit_of (commit_subject commit asked) other ≡ commit
commit_of-is commit None other = refl
commit_of-is commit (Some asked) other = refl

no_package : (asked : PackageKey) (version : Option (List ℕ)) (commit : List ℕ) (key : Option PackageKey) → Package asked version ≡ commit_subject commit key → ⊥
no_package asked version commit None e = cc
no_package asked version commit (Some key) e = cc

pub returns-in-Package-clause-of_commit : goal.returns-in-Package-clause-of_commit
returns-in-Package-clause-of_commit g c = λ p commit asked s is. absurd (no_package _ _ commit asked (sym c.in-Package.is ∙ is))

pub returns-in-Commit-clause-of_commit : goal.returns-in-Commit-clause-of_commit
returns-in-Commit-clause-of_commit g c = λ p commit asked s is.
    let same : c.in-Commit.commit ≡ commit = ap (λ (x : Subject). commit_of x []) (sym c.in-Commit.is ∙ is) ∙ commit_of-is commit asked [] in
    omega (arith, c.by_commit.ensures.listed p s, ap (λ (o : List ℕ). length (hit_indexes p o)) same)

pub returns-in-CommitIn-clause-of_commit : goal.returns-in-CommitIn-clause-of_commit
returns-in-CommitIn-clause-of_commit g c = λ p commit asked s is.
    let same : c.in-CommitIn.commit ≡ commit = ap (λ (x : Subject). commit_of x []) (sym c.in-CommitIn.is ∙ is) ∙ commit_of-is commit asked [] in
    omega (arith, c.by_commit-in-CommitIn.ensures.listed p s, ap (λ (o : List ℕ). length (hit_indexes p o)) same)

pub returns-in-Commit-clause-records : goal.returns-in-Commit-clause-records
returns-in-Commit-clause-records g c = λ p s.
    omega (arith, c.by_commit.ensures.listed p s, indexes-fewer (is_git_hit p c.in-Commit.commit) 0 (records p))

pub returns-in-CommitIn-clause-records : goal.returns-in-CommitIn-clause-records
returns-in-CommitIn-clause-records g c = λ p s.
    omega (arith, c.by_commit-in-CommitIn.ensures.listed p s, indexes-fewer (is_git_hit p c.in-CommitIn.commit) 0 (records p))
