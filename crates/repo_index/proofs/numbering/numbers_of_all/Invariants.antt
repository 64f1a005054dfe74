use Rattle.std.proofs.Common.{◌≡◌, List, length, map, take}
use Rattle.std.specs.Arc.{arc_value}
use Rattle.std.specs.List.{AllZip}
use Rattle.osv_record.specs.Advisories.{Advisory}
use Rattle.history.specs.declared.past.Past.{Past}
use Rattle.history.specs.Prefixes.{records}
use Rattle.impact_job.specs.Tables.{AreSetsOf}
use Rattle.repo_index.specs.Numbers.{AreNumbersOf, AreSame, KeepNumbers}
use Rattle.repo_index.proofs.numbering.numbers_of_all.Given as goal

abbrev pub invariant-loop-place : goal.invariant-loop-place
invariant-loop-place l =
    record {
      numbers : (p : List Past) (old : List Advisory) → map (λ a. arc_value a) l.advisories ≡ records p → AllZip (AreSetsOf p) (records p) l.sets → AreSame l.moved old (records p)
          → AllZip (AreNumbersOf l.fn.keys) old l.base → AllZip (AreNumbersOf l.keys) (take l.place (records p)) l.all.items;
      kept : KeepNumbers l.fn.keys l.keys;
      count : length l.all.items ≡ l.place;
    }
