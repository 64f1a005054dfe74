-- What a call needs lasts, as the lock asks it of each of its calls (our own).
use Rattle.std.specs.Prelude.{ℕ, ◌≤◌, List}
use mathlib.Core.List.{IsPrefix}
use Rattle.osv_prim.specs.declared.oid.CommitRow.{CommitRow}
use Rattle.history.specs.Entries.{History}
use Rattle.book_model.specs.Conditions.{MayCall, MayGrow, MayPull, MayFinish, MayGiveBack}
use Rattle.book_model.proofs.Lasting.{call-lasts, grow-lasts, pull-lasts, finish-lasts, give_back-lasts}
use Rattle.snapshot.specs.Jobs.{name, outcome, IsJob, IsDone}
use Rattle.snapshot.specs.declared.job.Job.{Job}
use Rattle.snapshot.specs.declared.job.Finished.{Finished}

pub call_lasts : (by : ℕ) (a h : History) (n m : ℕ) → MayCall by a n → IsPrefix a h → n ≤ m → MayCall by h m
call_lasts by a h n m c p le = call-lasts by a h n m c p le

pub grow_lasts : (key : List ℕ) (version : ℕ) (rows : List CommitRow) (by : ℕ) (a h : History) (n m : ℕ) → MayGrow key version rows by a n → IsPrefix a h → n ≤ m → MayGrow key version rows by h m
grow_lasts key version rows by a h n m c p le = grow-lasts key version rows by a h n m c p le

pub pull_lasts : (goal by : ℕ) (a h : History) (n m : ℕ) → MayPull goal by a n → IsPrefix a h → n ≤ m → MayPull goal by h m
pull_lasts goal by a h n m c p le = pull-lasts goal by a h n m c p le

pub finish_lasts : (finished : Finished) (by : ℕ) (a h : History) (n m : ℕ) → MayFinish outcome IsDone finished by a n → IsPrefix a h → n ≤ m → MayFinish outcome IsDone finished by h m
finish_lasts finished by a h n m c p le = finish-lasts outcome IsDone finished by a h n m c p le

pub give_back_lasts : (job : Job) (by : ℕ) (a h : History) (n m : ℕ) → MayGiveBack name IsJob job by a n → IsPrefix a h → n ≤ m → MayGiveBack name IsJob job by h m
give_back_lasts job by a h n m c p le = give_back-lasts name IsJob job by a h n m c p le
