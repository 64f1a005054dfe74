-- Which histories are legal (our own).
use Rattle.std.specs.Prelude.{◌≡◌, ℕ, ◌+◌, ◌<◌, ◌≤◌, List, [], ◌∷◌, ◌++◌, length}
use Rattle.osv_prim.specs.declared.oid.CommitRow.{CommitRow}
use Rattle.osv_prim.specs.Graphs as of_rows
use Rattle.history.specs.declared.past.Past.{Past}
use Rattle.history.specs.declared.past.Past.TheVariants.{Import, Grow, Publish}
use Rattle.history.specs.Entries.{History, imports, uptos}
use Rattle.history.specs.Prefixes.{graph}

-- ---- publications

-- What decides which publication may come: the imports so far, those of the last publication, and those that came before it.
pub record Marks : Type 0 where
  pub count : ℕ
  pub last : ℕ
  pub before : ℕ

abbrev pub marked : Marks → Past → Marks
marked m (Import by advisory) = record { count = m.count + 1; last = m.last; before = m.before }
marked m (Grow by key rows) = record { count = m.count + 1; last = m.last; before = m.before }
marked m (Publish by upto) = record { count = m.count; last = upto; before = m.count }

abbrev pub MayFollow : Marks → Past → Type 0
MayFollow m (Import by advisory) = Unit {0}
MayFollow m (Grow by key rows) = Unit {0}
MayFollow m (Publish by upto) = (m.last < upto) × (upto ≤ m.count) × (m.before ≤ upto)

abbrev pub marks_from : Marks → History → Marks
marks_from m [] = m
marks_from m (e ∷ h) = marks_from (marked m e) h

abbrev pub ArePublishedFrom : Marks → History → Type 0
ArePublishedFrom m [] = Unit {0}
ArePublishedFrom m (e ∷ h) = MayFollow m e × ArePublishedFrom (marked m e) h

abbrev pub start : Marks
start = record { count = 0; last = 0; before = 0 }

abbrev pub marks : History → Marks
marks h = marks_from start h

-- ---- rows

-- the rows are new to the graph, and extend it legally
abbrev pub Extends : List CommitRow → List CommitRow → Type 0
Extends g rows = of_rows.IsLegal (g ++ rows)

abbrev pub MayGrow : History → Past → Type 0
MayGrow h (Import by advisory) = Unit {0}
MayGrow h (Grow by key rows) = Extends (graph h key) rows
MayGrow h (Publish by upto) = Unit {0}

abbrev pub AreGrownFrom : History → History → Type 0
AreGrownFrom before [] = Unit {0}
AreGrownFrom before (e ∷ h) = MayGrow before e × AreGrownFrom (before ++ e ∷ []) h

-- ---- both

pub record IsLegal (h : History) : Type 0 where
  pub published : ArePublishedFrom start h
  pub grown : AreGrownFrom [] h

-- this entry may come next
pub record MayCome (h : History) (e : Past) : Type 0 where
  pub published : MayFollow (marks h) e
  pub grown : MayGrow h e

-- the same, sentence by sentence
pub record IsLegalBySentences (h : History) : Type 0 where
  -- the first publication is of at least one import
  pub first : (a b : History) (by upto : ℕ) → h ≡ a ++ Publish by upto ∷ b → uptos a ≡ [] → 1 ≤ upto
  -- each is of more imports than the one before it
  pub rises : (a b c : History) (by upto next later : ℕ) → h ≡ a ++ Publish by upto ∷ (b ++ Publish next later ∷ c) → uptos b ≡ [] → upto < later
  -- of imports that came before it
  pub came : (a b : History) (by upto : ℕ) → h ≡ a ++ Publish by upto ∷ b → upto ≤ length (imports a)
  -- and of all that came before the one before it
  pub reaches : (a b c : History) (by upto next later : ℕ) → h ≡ a ++ Publish by upto ∷ (b ++ Publish next later ∷ c) → uptos b ≡ [] → length (imports a) ≤ later
  -- rows are new to their graph, and extend it legally
  pub extends : (a b : History) (by : ℕ) (key : List ℕ) (rows : List CommitRow) → h ≡ a ++ Grow by key rows ∷ b → Extends (graph a key) rows
