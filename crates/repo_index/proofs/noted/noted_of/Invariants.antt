use Rattle.std.proofs.Common.{◌≡◌, ℕ, List, Some, take}
use Rattle.std.specs.List.{AllZip}
use Rattle.osv_prim.specs.Graphs.{number_of}
use Rattle.history.specs.declared.past.Past.{Past}
use Rattle.history.specs.Prefixes.{records, graph}
use Rattle.impact_job.specs.Tables.{AreSetsOf}
use Rattle.repo_index.specs.Index.{AscendTo, all_seen, is_noted}
use Rattle.repo_index.specs.Listing.{hits_on, passes_from}
use Rattle.repo_index.specs.Numbers.{AreNumbersOf}
use Rattle.repo_index.proofs.noted.noted_of.Given as goal

abbrev pub invariant-loop-index : goal.invariant-loop-index
invariant-loop-index l =
    record {
      hits : (p : List Past) (keys : List (List ℕ)) → AllZip (AreNumbersOf keys) (records p) l.own → AllZip (AreSetsOf p) (records p) l.sets → (repo commit : List ℕ) (n i : ℕ) → number_of (graph p repo) commit ≡ Some n
          → is_noted keys (all_seen l.noted.items) repo n i ≡ passes_from (hits_on p repo commit) 0 (take l.index (records p)) i;
      ascend : AscendTo (all_seen l.noted.items) l.index;
    }
