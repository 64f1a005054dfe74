-- Answers to queries that are the same (our own).
use Rattle.std.specs.Prelude.{◌≡◌}
use Rattle.snapshot.specs.Pages.{page_seen}
use Rattle.schedule.specs.declared.step.Answer.{Answer}
use Rattle.schedule.specs.declared.step.Answer.TheVariants.{Page, Gone, Ahead}

-- the same page, or the same word on a snapshot that isn't kept
abbrev pub IsSameAnswer : Answer → Answer → Type 0
IsSameAnswer (Page a) (Page b) = page_seen a ≡ page_seen b
IsSameAnswer (Gone a) (Gone b) = a ≡ b
IsSameAnswer (Ahead a) (Ahead b) = a ≡ b
IsSameAnswer a b = ⊥
