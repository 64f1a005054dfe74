-- What a call needs lasts, each condition by a lemma of the form that a call of the lock asks for.
use Rattle.std.proofs.Common.{◌≡◌, ℕ, ◌-◌, ◌≤◌, List, take, sym, subst, arith}
use mathlib.Core.List.{IsPrefix}
use Rattle.osv_prim.specs.declared.oid.CommitRow.{CommitRow}
use Rattle.history.specs.declared.past.Past.{Past}
use Rattle.history.specs.Entries.{History, imports, snap}
use Rattle.history.proofs.Entries.{front-length, imports-front}
use Rattle.history.proofs.Conditions.{version-lasts, within-lasts, base-lasts, first-lasts}
use Rattle.book_model.specs.Jobs.{JobName, Outcome, StandsIn, JobHolds, FinishedHolds}
use Rattle.book_model.specs.Conditions.{MayCall, MayGrow, MayPull, MayFinish, MayGiveBack}

pub stands-lasts : (stands_for : List Past → List Past → Type 0) (build upto : ℕ) (a h : History) → IsPrefix a h → StandsIn stands_for build upto a → StandsIn stands_for build upto h
stands-lasts stands_for build upto a h p s =
    let base : snap h (build - 1) ≡ snap a (build - 1) = base-lasts build upto a h p s.within in
    let first : take upto (imports h) ≡ take upto (imports a) = first-lasts a h upto p s.within.came in
    record {
      within = within-lasts build upto a h p s.within;
      stands = subst (λ (b : List Past). stands_for b (take upto (imports h))) (sym base) (subst (λ (x : List Past). stands_for (snap a (build - 1)) x) (sym first) s.stands);
    }

pub call-lasts : (by : ℕ) (a h : History) (n m : ℕ) → MayCall by a n → IsPrefix a h → n ≤ m → MayCall by h m
call-lasts by a h n m c p le = omega (arith, c, le)

pub grow-lasts : (key : List ℕ) (version : ℕ) (rows : List CommitRow) (by : ℕ) (a h : History) (n m : ℕ) → MayGrow key version rows by a n → IsPrefix a h → n ≤ m → MayGrow key version rows by h m
grow-lasts key version rows by a h n m c p le = (omega (arith, c.0, le), version-lasts key version rows a h p c.1)

pub pull-lasts : (goal by : ℕ) (a h : History) (n m : ℕ) → MayPull goal by a n → IsPrefix a h → n ≤ m → MayPull goal by h m
pull-lasts goal by a h n m c p le = (omega (arith, c.0, le), omega (arith, c.1, front-length (imports a) (imports h) (imports-front a h p)))

pub job-lasts : {J : Type 0} (name : J → JobName) (is_job : J → List Past → List Past → Type 0) (job : J) (a h : History) → IsPrefix a h → JobHolds name is_job job a → JobHolds name is_job job h
job-lasts name is_job job a h p s = stands-lasts (is_job job) (name job).build (name job).upto a h p s

pub finished-lasts : {F : Type 0} (outcome : F → Outcome) (is_done : F → List Past → List Past → Type 0) (finished : F) (a h : History) → IsPrefix a h → FinishedHolds outcome is_done finished a → FinishedHolds outcome is_done finished h
finished-lasts outcome is_done finished a h p s =
    record { stands = stands-lasts (is_done finished) (outcome finished).job.build (outcome finished).job.upto a h p s.stands; free = s.free }

pub finish-lasts : {F : Type 0} (outcome : F → Outcome) (is_done : F → List Past → List Past → Type 0) (finished : F) (by : ℕ) (a h : History) (n m : ℕ)
    → MayFinish outcome is_done finished by a n → IsPrefix a h → n ≤ m → MayFinish outcome is_done finished by h m
finish-lasts outcome is_done finished by a h n m c p le = (omega (arith, c.0, le), finished-lasts outcome is_done finished a h p c.1)

pub give_back-lasts : {J : Type 0} (name : J → JobName) (is_job : J → List Past → List Past → Type 0) (job : J) (by : ℕ) (a h : History) (n m : ℕ)
    → MayGiveBack name is_job job by a n → IsPrefix a h → n ≤ m → MayGiveBack name is_job job by h m
give_back-lasts name is_job job by a h n m c p le = (omega (arith, c.0, le), job-lasts name is_job job a h p c.1)
