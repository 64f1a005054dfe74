-- The rule of a lock's table (our own): what holds of its words, of its slot and of what each pass knows, at every step.
use Rattle.std.specs.Prelude.{◌≡◌, ℕ, ◌+◌, ◌<◌, ◌≤◌, List, [], ◌∷◌, ◌++◌, All, ◌⊎◌, Option, Some, None, Bool, true, false, length}
use mathlib.Core.Option.{some, none}
use mathlib.Core.List.{IsPrefix}
use lib.ListN.{get_elem?}
use Rattle.atomic_table.specs.Table.{State, Me, Step}
use Rattle.turn_lock.specs.History.{GivesAtMostOne, entries_by, longer}
use Rattle.turn_lock.specs.Turn.{Meaning, number_after}
use Rattle.turn_lock.specs.declared.view.View.{View}

-- the words: the next ticket, the ticket that is served, and, by the pass with the turn, the history's length and the count of caller numbers; then how many passes sleep. Those between are unused, so that no two threads spin on one line of memory
abbrev pub lock_words : ℕ → ℕ → ℕ → ℕ → ℕ → List ℕ
lock_words ticket serving long callers sleepers = ticket ∷ 0 ∷ 0 ∷ 0 ∷ 0 ∷ 0 ∷ 0 ∷ 0 ∷ serving ∷ 0 ∷ 0 ∷ 0 ∷ 0 ∷ 0 ∷ 0 ∷ 0 ∷ long ∷ callers ∷ sleepers ∷ []

-- 1 for a pass that has a ticket
abbrev pub ticket_count : Option ℕ → ℕ
ticket_count None = 0
ticket_count (Some t) = 1

-- how many views have a ticket
abbrev pub waiting : {E F : Type 0} → List (View E F) → ℕ
waiting [] = 0
waiting (v ∷ vs) = ticket_count v.ticket + waiting vs

-- what a pass knows is true: its list begins the history, its ticket is in the queue, and all entries by its number stand in its list
pub record ViewFits {E F : Type 0} (owner : E → ℕ) (key : F) (log : List E) (ticket serving callers : ℕ) (v : View E F) : Type 0 where
  pub seen : IsPrefix v.seen log
  -- what a pass that was joined to it had seen
  pub joined_seen : IsPrefix v.joined_seen log
  pub fixed : (f : F) → v.fixed ≡ Some f → f ≡ key
  pub place : (t : ℕ) → v.ticket ≡ Some t → (serving ≤ t) × (t < ticket)
  pub turn : v.has_turn ≡ true → v.ticket ≡ Some serving
  pub number : (n : ℕ) → v.number ≡ Some n → (n < callers) × (entries_by owner n log ≡ entries_by owner n v.seen)

-- two views with one ticket, or with one number
abbrev pub Clash : {E F : Type 0} → View E F → View E F → Type 0
Clash v w = ((t : ℕ) × (v.ticket ≡ Some t) × (w.ticket ≡ Some t)) ⊎ ((n : ℕ) × (v.number ≡ Some n) × (w.number ≡ Some n))

-- no two passes have one ticket or one number
abbrev pub NoneClash : {E F : Type 0} → List (View E F) → Type 0
NoneClash {E} {F} vs = (i j : ℕ) (v w : View E F) → get_elem? vs i ≡ some v → get_elem? vs j ≡ some w → Clash v w → i ≡ j

-- no pass has the turn, and the value in the slot has the history, the count of callers and the fixed part
abbrev pub IsHome : {B E F : Type 0} → Meaning B E F → F → List E → ℕ → State (Option B) (View E F) → Type 0
IsHome {B} {E} {F} m key log callers s = ((i : ℕ) (v : View E F) → get_elem? s.views i ≡ some v → v.has_turn ≡ false)
    × (b : B) × (s.homes ≡ some (Some b) ∷ []) × (m.entries b ≡ log) × (m.caller_count b ≡ callers) × (m.fixed b ≡ key)

-- a pass has the turn and the slot, and its view is the history
abbrev pub IsOut : {B E F : Type 0} → List E → ℕ → State (Option B) (View E F) → Type 0
IsOut {B} {E} {F} log callers s = (i : ℕ) × (v : View E F) × (get_elem? s.views i ≡ some v) × (v.has_turn ≡ true) × (s.homes ≡ none ∷ []) × (v.seen ≡ log) × (v.callers ≡ callers)

-- the rule: there is one history, `log`, and each view fits it
pub record LockRule {B E F : Type 0} (m : Meaning B E F) (key : F) (s : State (Option B) (View E F)) : Type 0 where
  pub ticket : ℕ
  pub serving : ℕ
  pub callers : ℕ
  pub sleepers : ℕ
  pub log : List E
  pub words : s.words ≡ lock_words ticket serving (length log) callers sleepers
  pub bound : ticket ≤ 18446744073709551615
  pub queue : serving + waiting s.views ≡ ticket
  pub fits : (i : ℕ) (v : View E F) → get_elem? s.views i ≡ some v → ViewFits m.owner key log ticket serving callers v
  pub apart : NoneClash s.views
  pub below : All (λ e. m.owner e < callers) log
  pub slot : IsHome m key log callers s ⊎ IsOut log callers s

-- a view that keeps no second list
abbrev pub plain_view : {E F : Type 0} → List E → Option F → Option ℕ → Bool → ℕ → Option ℕ → View E F
plain_view seen fixed ticket has_turn callers number = record { seen = seen; fixed = fixed; ticket = ticket; has_turn = has_turn; callers = callers; number = number; joined_seen = [] }

-- the view of the pass that `start` gives
abbrev pub first_view : {B E F : Type 0} → Meaning B E F → B → View E F
first_view m b = plain_view (m.entries b) (Some (m.fixed b)) None false 0 None

-- the view of a pass that was joined to another
abbrev pub spent_view : {E F : Type 0} → View E F
spent_view = plain_view [] None None false 0 None

-- the view of the new pass of a split
abbrev pub split_view : {E F : Type 0} → View E F → View E F
split_view v = plain_view v.seen v.fixed None false 0 None

-- the view that keeps the list of the other beside its own
abbrev pub joined : {E F : Type 0} → View E F → View E F → View E F
joined v w = record { seen = v.seen; fixed = v.fixed; ticket = v.ticket; has_turn = v.has_turn; callers = v.callers; number = v.number; joined_seen = w.seen }

-- the view that has seen the longer of its two lists
abbrev pub merged : {E F : Type 0} → View E F → View E F
merged v = plain_view (longer v.seen v.joined_seen) v.fixed v.ticket v.has_turn v.callers v.number

-- the view once it has drawn the ticket t
abbrev pub queued : {E F : Type 0} → View E F → ℕ → View E F
queued v t = plain_view v.seen v.fixed (Some t) false v.callers v.number

-- the view once its turn has come, at the value b
abbrev pub served : {B E F : Type 0} → Meaning B E F → View E F → B → View E F
served m v b = plain_view (m.entries b) v.fixed v.ticket true (m.caller_count b) v.number

-- the view once it has seen xs
abbrev pub with_seen : {E F : Type 0} → View E F → List E → View E F
with_seen v xs = plain_view xs v.fixed v.ticket v.has_turn v.callers v.number

-- the view once the count of numbers is n
abbrev pub with_callers : {E F : Type 0} → View E F → ℕ → View E F
with_callers v n = plain_view v.seen v.fixed v.ticket v.has_turn n (number_after v.number v.callers n)

-- the view once its turn is over
abbrev pub without_turn : {E F : Type 0} → View E F → View E F
without_turn v = plain_view v.seen v.fixed None false v.callers v.number

-- a pass between two turns
abbrev pub IsIdle : {B E F : Type 0} → Me (Option B) (View E F) → Type 0
IsIdle me = (me.1 ≡ []) × (me.0.ticket ≡ None) × (me.0.has_turn ≡ false)

-- a pass that waits with the ticket t
abbrev pub Waits : {B E F : Type 0} → Me (Option B) (View E F) → ℕ → Type 0
Waits me t = (me.1 ≡ []) × (me.0.ticket ≡ Some t) × (me.0.has_turn ≡ false)

-- the pass has the turn and the slot with b in it
abbrev pub Holds : {B E F : Type 0} → Meaning B E F → Me (Option B) (View E F) → B → Type 0
Holds m me b = (me.1 ≡ (0, Some b) ∷ []) × (me.0.has_turn ≡ true) × (me.0.seen ≡ m.entries b) × (me.0.callers ≡ m.caller_count b) × ((f : _) → me.0.fixed ≡ Some f → m.fixed b ≡ f)

-- the pass that had the view v has the turn, and the slot with a value at which all that it had seen still stands
pub record IsServed {B E F : Type 0} (m : Meaning B E F) (v : View E F) (n : Me (Option B) (View E F)) : Type 0 where
  pub value : B
  pub seat : n ≡ (served m v value, (0, Some value) ∷ [])
  pub begins : IsPrefix v.seen (m.entries value)
  pub fixed : (f : F) → v.fixed ≡ Some f → m.fixed value ≡ f
  pub number : (k : ℕ) → v.number ≡ Some k → (k < m.caller_count value) × (entries_by m.owner k (m.entries value) ≡ entries_by m.owner k v.seen)

module _ {B E F : Type 0} where
  -- what each step on a word tells: a ticket was taken, where the word was as expected
  abbrev pub TakesTicket : Step (Option B) → Me (Option B) (View E F) → ℕ → Me (Option B) (View E F) → Type 0
  TakesTicket st me r n = (r ≡ st.first → n ≡ (queued me.0 st.first, me.1)) × (¬ (r ≡ st.first) → n ≡ me)

  -- the pass has the turn, where its ticket is served
  abbrev pub ReadsServing : Meaning B E F → Step (Option B) → Me (Option B) (View E F) → ℕ → Me (Option B) (View E F) → Type 0
  ReadsServing m st me r n = (t : ℕ) → me.0.ticket ≡ Some t
      → (r ≡ t → IsServed m me.0 n)
      × (¬ (r ≡ t) → n ≡ me)

  -- nothing, where a pass goes to sleep or wakes
  abbrev pub CountsSleepers : Step (Option B) → Me (Option B) (View E F) → ℕ → Me (Option B) (View E F) → Type 0
  CountsSleepers st me r n = n ≡ me

  -- the history is that of the value in the slot
  abbrev pub StoresLength : Meaning B E F → Step (Option B) → Me (Option B) (View E F) → ℕ → Me (Option B) (View E F) → Type 0
  StoresLength m st me r n = (b : B) → me.1 ≡ (0, Some b) ∷ [] → n ≡ (with_seen me.0 (m.entries b), me.1)

  -- the count of caller numbers, and a new one is the pass's
  abbrev pub StoresCallers : Step (Option B) → Me (Option B) (View E F) → ℕ → Me (Option B) (View E F) → Type 0
  StoresCallers st me r n = n ≡ (with_callers me.0 st.first, me.1)

  -- both lists begin the longer, which the pass has seen
  abbrev pub MergesSeen : Step (Option B) → Me (Option B) (View E F) → ℕ → Me (Option B) (View E F) → Type 0
  MergesSeen st me r n = (n ≡ (merged me.0, me.1)) × IsPrefix me.0.seen (longer me.0.seen me.0.joined_seen) × IsPrefix me.0.joined_seen (longer me.0.seen me.0.joined_seen)

  -- the turn is over
  abbrev pub RaisesServing : Step (Option B) → Me (Option B) (View E F) → ℕ → Me (Option B) (View E F) → Type 0
  RaisesServing st me r n = n ≡ (without_turn me.0, [])

-- the view once the turn has ended at the value t
abbrev pub ended : {B E F : Type 0} → Meaning B E F → View E F → B → View E F
ended m v t = without_turn (with_callers (with_seen v (m.entries t)) (m.caller_count t))

-- what the pass with the turn may leave in the slot: its own entries are added, and at most one number is given
abbrev pub MayLeave : {B E F : Type 0} → Meaning B E F → View E F → ℕ → B → Type 0
MayLeave {B} {E} {F} m v by t = ((fresh : List E) × (v.seen ++ fresh ≡ m.entries t) × All (λ e. m.owner e ≡ by) fresh × ((v.number ≡ Some by) ⊎ (fresh ≡ [])))
    × GivesAtMostOne v.callers (m.caller_count t) × ((f : F) × (v.fixed ≡ Some f) × (m.fixed t ≡ f))
