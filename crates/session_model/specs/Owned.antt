-- The caller's own entries, request by request (our own).
use Rattle.std.specs.Prelude.{◌≡◌, ◌≢◌, ◌⊎◌, ℕ, ◌-◌, ◌≤◌, List, [], ◌∷◌, ◌++◌, length, Option, Some, None, Result, Ok, Err}
use Rattle.osv_prim.specs.declared.oid.CommitRow.{CommitRow}
use Rattle.osv_record.specs.Advisories.{Advisory}
use Rattle.osv_record.specs.Reading.{advisory}
use Rattle.osv_record.specs.declared.fault.RecordFault.{RecordFault}
use Rattle.history.specs.declared.past.Past.{Past}
use Rattle.history.specs.declared.past.Past.TheVariants.{Import, Grow}
use Rattle.history.specs.Entries.{own}
use Rattle.book_model.specs.Desk.{Caller}
use Rattle.http_wire.specs.declared.reply.Reply.{Reply}
use Rattle.http_wire.specs.declared.request.Request.{Request}
use Rattle.session_model.specs.declared.route.Route.{Route}
use Rattle.session_model.specs.declared.route.Route.TheVariants as routes
use Rattle.session_model.specs.Routes.{route_of, key_of}
use Rattle.session_model.specs.Answers.{ArePublications}
use Rattle.session_model.specs.Runs.{Done}

-- an import that got 200 added its entry, the last one before its point; one that got 507 added none
abbrev pub AddsByImport : ℕ → ℕ → Result Advisory RecordFault → ℕ → List (ℕ × Past) → Type 0
AddsByImport me point (Err fault) status added = added ≡ []
AddsByImport me point (Ok r) status added = ((status ≡ 200) × (added ≡ (point - 1, Import me r) ∷ [])) ⊎ ((status ≡ 507) × (added ≡ []))

-- one that got 200 for commits added their entry, the last one before its point, and else it added none
abbrev pub AddsByRepo : ℕ → ℕ → Option (List ℕ) → ℕ → List (ℕ × Past) → Type 0
AddsByRepo me point None status added = added ≡ []
AddsByRepo me point (Some key) status added =
    ((rows : List CommitRow) × (status ≡ 200) × (added ≡ (point - 1, Grow me key rows) ∷ [])) ⊎ ((status ≢ 200) × (added ≡ []))

-- what a request that leads there added, from the point before on and below its own
abbrev pub AddsAt : ℕ → ℕ → ℕ → Request → Route → Reply → List (ℕ × Past) → Type 0
AddsAt me from point q routes.NoPath reply added = added ≡ []
AddsAt me from point q (routes.WrongMethod allow) reply added = added ≡ []
AddsAt me from point q routes.Query reply added = added ≡ []
AddsAt me from point q routes.QueryBatch reply added = added ≡ []
AddsAt me from point q routes.Vulns reply added = added ≡ []
AddsAt me from point q routes.Import reply added = AddsByImport me point (advisory q.body) reply.status added
AddsAt me from point q routes.Repo reply added = AddsByRepo me point (key_of q.query) reply.status added
AddsAt me from point q routes.Publish reply added = (length added ≤ 2) × ArePublications me from point added

abbrev pub AddsFor : ℕ → ℕ → Done → List (ℕ × Past) → Type 0
AddsFor me from d added = AddsAt me from d.point d.asked.request (route_of d.asked.request) d.reply added

-- the same for each of these requests
abbrev pub AddsEach : ℕ → ℕ → List Done → List (List (ℕ × Past)) → Type 0
AddsEach me from [] [] = Unit {0}
AddsEach me from [] (added ∷ more) = ⊥
AddsEach me from (d ∷ ds) [] = ⊥
AddsEach me from (d ∷ ds) (added ∷ more) = AddsFor me from d added × AddsEach me d.point ds more

-- what they added, one after another
abbrev pub all_of : List (List (ℕ × Past)) → List (ℕ × Past)
all_of [] = []
all_of (added ∷ more) = added ++ all_of more

-- Between the two moments the caller's own entries grew by those of these requests, in their order, and by no others.
pub record OwnEntries (old new : Caller) (done : List Done) : Type 0 where
  pub added : List (List (ℕ × Past))
  pub each : AddsEach old.me (length old.front) done added
  pub whole : own old.me new.front ≡ own old.me old.front ++ all_of added
