-- The caller's own entries, request by request.
use Rattle.std.proofs.Common.{◌≡◌, ◌≢◌, ◌⊎◌, inl, inr, ℕ, ◌+◌, ◌-◌, ◌≤◌, List, [], ◌∷◌, ◌++◌, length, take, drop, refl, sym, ap, subst, ◌∙◌, append_assoc, arith, length-append}
use Rattle.std.specs.Prelude.{Option, Some, None, Result, Ok, Err, Bool}
use Rattle.std.proofs.lemmas.List.{append-nil}
use Rattle.settings.specs.declared.Settings.{Settings}
use Rattle.osv_prim.specs.declared.oid.CommitRow.{CommitRow}
use Rattle.osv_record.specs.Advisories.{Advisory}
use Rattle.osv_record.specs.Reading.{advisory}
use Rattle.osv_record.specs.declared.fault.RecordFault.{RecordFault}
use Rattle.fast_export.specs.declared.fault.StreamFault.{StreamFault}
use Rattle.query_json.specs.declared.fault.BatchFault.{BatchFault}
use Rattle.query_json.specs.declared.fault.QueryFault.{QueryFault}
use Rattle.query_json.specs.declared.query.Query.{Query}
use Rattle.query_json.specs.Batches.{batch}
use Rattle.query_json.specs.Queries.{query}
use Rattle.history.specs.declared.past.Past.{Past}
use Rattle.history.specs.declared.past.Past.TheVariants.{Import, Grow}
use Rattle.history.specs.Entries.{History, own}
use Rattle.history.specs.Prefixes.{graph}
use Rattle.book_model.specs.Desk.{Caller}
use Rattle.http_wire.specs.declared.reply.Reply.{Reply}
use Rattle.http_wire.specs.declared.request.Request.{Request}
use Rattle.session_model.specs.declared.route.Route.{Route}
use Rattle.session_model.specs.declared.route.Route.TheVariants as routes
use Rattle.session_model.specs.declared.sign.Sign.{Sign}
use Rattle.session_model.specs.declared.sign.Sign.TheVariants as signs
use Rattle.session_model.specs.Routes.{route_of, id_of, key_of}
use Rattle.session_model.specs.Looks.{least_of}
use Rattle.session_model.specs.Answers.{ArePublications, PublishesFew, Enters, IsFull, ImportAnswers, GrowsBy, LacksRoom, CommitsAnswer, StreamAnswers, RepoAnswers, commits_in, QueryAnswers, BatchAnswers, VulnsAnswers, PublishAnswers, AnswersAt}
use Rattle.session_model.specs.Owned.{AddsByImport, AddsByRepo, AddsAt, AddsEach, all_of, OwnEntries}
use Rattle.session_model.specs.Runs.{Done, Runs}

-- what a request added, by where it leads
record Added (me : ℕ) (h now : History) (point : ℕ) (q : Request) (route : Route) (reply : Reply) : Type 0 where
  pub added : List (ℕ × Past)
  pub mine : own me now ≡ own me h ++ added
  pub is : AddsAt me (length h) point q route reply added

no-more : (me : ℕ) (h now : History) → own me now ≡ own me h → own me now ≡ own me h ++ []
no-more me h now e = e ∙ sym (append-nil (own me h))

query-own : (s : Settings) (closes : Bool) (me : ℕ) (h now : History) (least : Option ℕ) (asked : Result Query QueryFault) (sign : Sign) (reply : Reply) → QueryAnswers s closes me h now least asked sign reply → own me now ≡ own me h
query-own s closes me h now None asked sign reply a = ap (own me) a.1
query-own s closes me h now (Some least) (Err fault) sign reply a = ap (own me) a.1
query-own s closes me h now (Some least) (Ok q) sign reply a = a.1.mine

batch-own : (s : Settings) (closes : Bool) (me : ℕ) (h now : History) (least : Option ℕ) (asked : Result (List Query) BatchFault) (sign : Sign) (reply : Reply) → BatchAnswers s closes me h now least asked sign reply → own me now ≡ own me h
batch-own s closes me h now None asked sign reply a = ap (own me) a.1
batch-own s closes me h now (Some least) (Err fault) sign reply a = ap (own me) a.1
batch-own s closes me h now (Some least) (Ok queries) sign reply a = a.1.mine

vulns-own : (closes : Bool) (me : ℕ) (h now : History) (least : Option ℕ) (id : List ℕ) (sign : Sign) (reply : Reply) → VulnsAnswers closes me h now least id sign reply → own me now ≡ own me h
vulns-own closes me h now None id sign reply a = ap (own me) a.1
vulns-own closes me h now (Some least) id sign reply a = a.1.mine

-- what an import added
record Imported (me : ℕ) (h now : History) (point : ℕ) (asked : Result Advisory RecordFault) (reply : Reply) : Type 0 where
  pub added : List (ℕ × Past)
  pub mine : own me now ≡ own me h ++ added
  pub is : AddsByImport me point asked reply.status added

entered : (s : Settings) (closes : Bool) (me : ℕ) (h now : History) (point : ℕ) (r : Advisory) (reply : Reply) → point ≡ length now → Enters s closes me h now (Import me r) reply ⊎ IsFull s closes me h now (Import me r) reply
    → Imported me h now point (Ok r) reply
entered s closes me h now point r reply at (inl e) =
    let len : length now ≡ length e.1.before + 1 = ap (λ (x : History). length x) e.1.ends ∙ length-append e.1.before (Import me r ∷ []) in
    let place : e.0 ≡ point - 1 = omega (arith, e.1.place_is, len, at) in
    record { added = (e.0, Import me r) ∷ []; mine = e.1.mine; is = inl (ap (λ (x : Reply). x.status) e.3, ap (λ (n : ℕ). (n, Import me r) ∷ []) place) }
entered s closes me h now point r reply at (inr f) = record { added = []; mine = no-more me h now f.0.mine; is = inr (ap (λ (x : Reply). x.status) f.2, refl) }

imported : (s : Settings) (closes : Bool) (me : ℕ) (h now : History) (point : ℕ) (asked : Result Advisory RecordFault) (sign : Sign) (reply : Reply) → point ≡ length now → ImportAnswers s closes me h now asked sign reply
    → Imported me h now point asked reply
imported s closes me h now point (Err fault) sign reply at a = record { added = []; mine = no-more me h now (ap (own me) a.1); is = refl }
imported s closes me h now point (Ok r) sign reply at a = entered s closes me h now point r reply at a.1

-- what the commits of a repository added
record Grew (me : ℕ) (h now : History) (point : ℕ) (key : Option (List ℕ)) (reply : Reply) : Type 0 where
  pub added : List (ℕ × Past)
  pub mine : own me now ≡ own me h ++ added
  pub is : AddsByRepo me point key reply.status added

-- a refusal added nothing
grew-none : (me : ℕ) (h now : History) (point : ℕ) (key : List ℕ) (reply : Reply) (status : ℕ) → own me now ≡ own me h → reply.status ≡ status → 400 ≤ status → Grew me h now point (Some key) reply
grew-none me h now point key reply status mine e le = record { added = []; mine = no-more me h now mine; is = inr (other reply.status status e le, refl) }
  where
    other : (n m : ℕ) → n ≡ m → 400 ≤ m → n ≢ 200
    other n m e le f = omega (arith, e, le, f)

grew-by : (s : Settings) (closes : Bool) (me : ℕ) (h now : History) (point : ℕ) (key : List ℕ) (rows : List CommitRow) (reply : Reply) → point ≡ length now → GrowsBy s closes me h now key rows reply ⊎ LacksRoom s closes me h now key rows reply
    → Grew me h now point (Some key) reply
grew-by s closes me h now point key rows reply at (inl e) =
    let new : List CommitRow = drop (length (graph (take e.0 now) key)) (graph now key) in
    let len : length now ≡ length e.1.before + 1 = ap (λ (x : History). length x) e.1.ends ∙ length-append e.1.before (Grow me key new ∷ []) in
    let place : e.0 ≡ point - 1 = omega (arith, e.1.place_is, len, at) in
    record { added = (e.0, Grow me key new) ∷ []; mine = e.1.mine; is = inl (new, ap (λ (x : Reply). x.status) e.4, ap (λ (n : ℕ). (n, Grow me key new) ∷ []) place) }
grew-by s closes me h now point key rows reply at (inr f) = grew-none me h now point key reply 507 f.2.0.mine (ap (λ (x : Reply). x.status) f.2.2) (omega arith)

grew-commits : (s : Settings) (closes : Bool) (me : ℕ) (h now : History) (point : ℕ) (key : List ℕ) (rows : List CommitRow) (sign : Sign) (reply : Reply) → point ≡ length now → CommitsAnswer s closes me h now key rows sign reply
    → Grew me h now point (Some key) reply
grew-commits s closes me h now point key rows signs.Plain reply at a = grew-by s closes me h now point key rows reply at a
grew-commits s closes me h now point key rows signs.Looked reply at a = grew-none me h now point key reply 400 a.2.mine (ap (λ (x : Reply). x.status) a.3) (omega arith)
grew-commits s closes me h now point key rows (signs.Moved seen) reply at a = grew-none me h now point key reply 409 a.0.mine (ap (λ (x : Reply). x.status) a.3) (omega arith)
grew-commits s closes me h now point key rows (signs.Published snapshot upto) reply at a = absurd a
grew-commits s closes me h now point key rows (signs.Building out took) reply at a = absurd a

grew-stream : (s : Settings) (closes : Bool) (me : ℕ) (h now : History) (point : ℕ) (key : List ℕ) (asked : Result (List CommitRow) StreamFault) (sign : Sign) (reply : Reply) → point ≡ length now → StreamAnswers s closes me h now key asked sign reply
    → Grew me h now point (Some key) reply
grew-stream s closes me h now point key (Err fault) sign reply at a = grew-none me h now point key reply 400 (ap (own me) a.1) (ap (λ (x : Reply). x.status) a.2) (omega arith)
grew-stream s closes me h now point key (Ok rows) sign reply at a = grew-commits s closes me h now point key rows sign reply at a

grew : (s : Settings) (closes : Bool) (me : ℕ) (h now : History) (point : ℕ) (key : Option (List ℕ)) (body : List ℕ) (sign : Sign) (reply : Reply) → point ≡ length now → RepoAnswers s closes me h now key body sign reply → Grew me h now point key reply
grew s closes me h now point None body sign reply at a = record { added = []; mine = no-more me h now (ap (own me) a.1); is = refl }
grew s closes me h now point (Some key) body sign reply at a = grew-stream s closes me h now point key (commits_in s.commits body) sign reply at a

few-own : (closes : Bool) (me : ℕ) (h now : History) (sign : Sign) (reply : Reply) → PublishAnswers closes me h now sign reply → PublishesFew me h now
few-own closes me h now signs.Plain reply a = absurd a
few-own closes me h now signs.Looked reply a = absurd a
few-own closes me h now (signs.Moved seen) reply a = absurd a
few-own closes me h now (signs.Published snapshot upto) reply a = a.3
few-own closes me h now (signs.Building out took) reply a = a.1

added-at : (s : Settings) (closes : Bool) (me : ℕ) (h now : History) (point : ℕ) (q : Request) (route : Route) (sign : Sign) (reply : Reply) → point ≡ length now → AnswersAt s closes me h now q route sign reply → Added me h now point q route reply
added-at s closes me h now point q routes.NoPath sign reply at a = record { added = []; mine = no-more me h now (ap (own me) a.1); is = refl }
added-at s closes me h now point q (routes.WrongMethod allow) sign reply at a = record { added = []; mine = no-more me h now (ap (own me) a.1); is = refl }
added-at s closes me h now point q routes.Query sign reply at a = record { added = []; mine = no-more me h now (query-own s closes me h now (least_of q.min) (query q.body) sign reply a); is = refl }
added-at s closes me h now point q routes.QueryBatch sign reply at a = record { added = []; mine = no-more me h now (batch-own s closes me h now (least_of q.min) (batch q.body) sign reply a); is = refl }
added-at s closes me h now point q routes.Vulns sign reply at a = record { added = []; mine = no-more me h now (vulns-own closes me h now (least_of q.min) (id_of q.path) sign reply a); is = refl }
added-at s closes me h now point q routes.Import sign reply at a =
    let i = imported s closes me h now point (advisory q.body) sign reply at a in
    record { added = i.added; mine = i.mine; is = i.is }
added-at s closes me h now point q routes.Repo sign reply at a =
    let g = grew s closes me h now point (key_of q.query) q.body sign reply at a in
    record { added = g.added; mine = g.mine; is = g.is }
added-at s closes me h now point q routes.Publish sign reply at a =
    let p = few-own closes me h now sign reply a in
    record { added = p.added; mine = p.mine; is = (p.few, subst (λ (n : ℕ). ArePublications me (length h) n p.added) (sym at) p.each) }

pub own-entries : (old new : Caller) (ds : List Done) → Runs old ds new → OwnEntries old new ds
own-entries old new [] r = record { added = []; each = tt; whole = no-more old.me old.front new.front (ap (λ (c : Caller). own old.me c.front) r) }
own-entries old new (d ∷ ds) r =
    let a = added-at old.settings d.closes old.me old.front r.0.front d.point d.asked.request (route_of d.asked.request) d.sign d.reply r.1.point_is r.1.replied.answers in
    let rest = own-entries r.0 new ds r.2 in
    let mine : own old.me new.front ≡ own old.me r.0.front ++ all_of rest.added = subst (λ (k : ℕ). own k new.front ≡ own k r.0.front ++ all_of rest.added) r.1.replied.goes.me rest.whole in
    let each : AddsEach old.me (length r.0.front) ds rest.added = subst (λ (k : ℕ). AddsEach k (length r.0.front) ds rest.added) r.1.replied.goes.me rest.each in
    record {
      added = a.added ∷ rest.added;
      each = (a.is, subst (λ (n : ℕ). AddsEach old.me n ds rest.added) (sym r.1.point_is) each);
      whole = mine ∙ ap (λ (l : List (ℕ × Past)). l ++ all_of rest.added) a.mine ∙ append_assoc (own old.me old.front) a.added (all_of rest.added);
    }
