-- A caller on whose book nobody else acts: what comes to it, and what it is told (our own). So what a run of requests does there is fixed by the requests.
use Rattle.std.specs.Prelude.{◌≡◌, ◌⊎◌, ℕ, Bool, false, List, [], ◌∷◌, ◌++◌, length, Option, Some, None, is_some, nat_lt, if◌then◌else◌, IfSome}
use Rattle.std.specs.List.{list_any}
use Rattle.turn_lock.specs.History.{GrownBy}
use Rattle.history.specs.declared.past.Past.TheVariants.{Publish}
use Rattle.history.specs.Entries.{History, caller, imports, newest, upto_of}
use Rattle.book_model.specs.State.{is_out, cells_in}
use Rattle.book_model.specs.Desk.{Caller}
use Rattle.session_model.specs.declared.route.Route.{Route}
use Rattle.session_model.specs.declared.route.Route.TheVariants as routes
use Rattle.session_model.specs.declared.sign.Sign.{Sign}
use Rattle.session_model.specs.declared.sign.Sign.TheVariants as signs

-- nobody else acts on the book, and no build is open
abbrev pub IsAlone : Caller → Type 0
IsAlone c = c.alone ≡ Some None

-- where nobody else acts on the book, no job of its build is out
abbrev pub HasNoJob : Caller → Type 0
HasNoJob c = IfSome c.alone (λ build. list_any is_out (cells_in build) ≡ false)

-- Between two moments: whether nobody else acts on the book is as before. Where nobody else does, no entry of others came, and a caller that had no job has none.
pub record StaysApart (old new : Caller) : Type 0 where
  pub still : is_some new.alone ≡ is_some old.alone
  pub grown : IfSome old.alone (λ build. GrownBy caller old.me old.front new.front)
  pub no_job : HasNoJob old → HasNoJob new

-- all that was imported is published, by one publication where any is needed
abbrev pub with_all : ℕ → History → History
with_all me h = if nat_lt (upto_of h (newest h)) (length (imports h)) then h ++ Publish me (length (imports h)) ∷ [] else h

-- what a publication comes to, which is never told to be under way
abbrev pub PublishesAlone : ℕ → History → History → Sign → Type 0
PublishesAlone me h now sign = (now ≡ with_all me h) × (sign ≡ signs.Published (newest now) (upto_of now (newest now)))

-- it doesn't tell that others grew a repository
abbrev pub IsUnmoved : Sign → Type 0
IsUnmoved signs.Plain = Unit {0}
IsUnmoved signs.Looked = Unit {0}
IsUnmoved (signs.Moved seen) = ⊥
IsUnmoved (signs.Published snapshot upto) = Unit {0}
IsUnmoved (signs.Building out took) = Unit {0}

-- what is told of others' work by a request that leads there: nothing
abbrev pub TellsAlone : ℕ → History → History → Sign → Route → Type 0
TellsAlone me h now sign routes.NoPath = Unit {0}
TellsAlone me h now sign (routes.WrongMethod allow) = Unit {0}
TellsAlone me h now sign routes.Query = Unit {0}
TellsAlone me h now sign routes.QueryBatch = Unit {0}
TellsAlone me h now sign routes.Vulns = Unit {0}
TellsAlone me h now sign routes.Import = Unit {0}
TellsAlone me h now sign routes.Repo = IsUnmoved sign
TellsAlone me h now sign routes.Publish = PublishesAlone me h now sign

-- the caller is alone as before, and was told so
pub record AnswersAlone (old new : Caller) (sign : Sign) (route : Route) : Type 0 where
  pub still : IsAlone new
  pub tells : TellsAlone old.me old.front new.front sign route

-- what a request may leave that leads there and found no memory: of a publication all of it
abbrev pub LeavesAlone : ℕ → History → History → Route → Type 0
LeavesAlone me h now routes.NoPath = now ≡ h
LeavesAlone me h now (routes.WrongMethod allow) = now ≡ h
LeavesAlone me h now routes.Query = now ≡ h
LeavesAlone me h now routes.QueryBatch = now ≡ h
LeavesAlone me h now routes.Vulns = now ≡ h
LeavesAlone me h now routes.Import = now ≡ h
LeavesAlone me h now routes.Repo = now ≡ h
LeavesAlone me h now routes.Publish = (now ≡ h) ⊎ (now ≡ with_all me h)
