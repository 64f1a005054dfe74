-- What the code keeps of the commits, as the facts that it stands for.
use Rattle.std.specs.Prelude.{List, ◌++◌, ◌∷◌, [], ℕ}
use Rattle.std.specs.Ordering.{nat_cmp}
use Rattle.std.specs.BTreeMap.{get}
use Rattle.fast_export.specs.declared.commits.Commits.{Commits}
use Rattle.fast_export.specs.Facts.{Facts}

abbrev pub facts_of : Commits → Facts
facts_of c =
    record {
      rows = c.rows;
      marks = get nat_cmp c.marks;
      mark = c.mark;
      oid = c.oid;
      parents = c.parents;
      promised = c.promised;
    }

abbrev pub with_parent_oid : Facts → List ℕ → Facts
with_parent_oid f oid = record f { parents = f.parents ++ oid ∷ [] }
