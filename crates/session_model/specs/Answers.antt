-- Which reply a request gets (our own): of the settings, the caller's number, the history at the point before and at the request's point, the request, and the sign.
use Rattle.std.specs.Prelude.{◌≡◌, ◌⊎◌, ℕ, ◌<◌, ◌≤◌, Bool, List, [], ◌∷◌, ◌++◌, length, take, drop, Option, Some, None, Result, Ok, Err, ◌+◌}
use mathlib.Core.List.{IsPrefix}
use Rattle.settings.specs.declared.Settings.{Settings}
use Rattle.osv_prim.specs.declared.oid.CommitRow.{CommitRow}
use Rattle.osv_record.specs.Advisories.{Advisory}
use Rattle.osv_record.specs.Reading.{advisory}
use Rattle.osv_record.specs.declared.fault.RecordFault.{RecordFault}
use Rattle.query_json.specs.declared.fault.BatchFault.{BatchFault}
use Rattle.query_json.specs.declared.fault.QueryFault.{QueryFault}
use Rattle.query_json.specs.declared.query.Query.{Query}
use Rattle.query_json.specs.Queries.{query}
use Rattle.query_json.specs.Batches.{batch}
use Rattle.fast_export.specs.declared.fault.StreamFault.{StreamFault}
use Rattle.fast_export.specs.Stream.{stream, answer}
use Rattle.commit_graph.specs.declared.fault.GraphFault.{GraphFault}
use Rattle.commit_graph.specs.Extended.{extended}
use Rattle.history.specs.declared.past.Past.{Past}
use Rattle.history.specs.declared.past.Past.TheVariants.{Import, Grow, Publish}
use Rattle.history.specs.Entries.{History, imports, newest, upto_of, weight, entry_weight, own}
use Rattle.history.specs.Prefixes.{grows, graph}
use Rattle.http_wire.specs.declared.reply.Reply.{Reply}
use Rattle.http_wire.specs.declared.request.Request.{Request}
use Rattle.reply_json.specs.declared.refusal.Refusal.{Refusal}
use Rattle.reply_json.specs.declared.refusal.Refusal.TheVariants as refusals
use Rattle.reply_json.specs.Bodies.{entry_body, commits_body, published_body, building_body}
use Rattle.session_model.specs.declared.route.Route.{Route}
use Rattle.session_model.specs.declared.route.Route.TheVariants as routes
use Rattle.session_model.specs.declared.sign.Sign.{Sign}
use Rattle.session_model.specs.declared.sign.Sign.TheVariants as signs
use Rattle.session_model.specs.Routes.{route_of, id_of, key_of}
use Rattle.session_model.specs.Replies.{done_reply, refusal_reply, method_reply}
use Rattle.session_model.specs.Looks.{least_of, query_reply, batch_reply, vulns_reply}

-- ---- what comes to the caller's own entries between two points

-- nothing
pub record AddsNothing (me : ℕ) (h now : History) : Type 0 where
  pub begins : IsPrefix h now
  pub mine : own me now ≡ own me h

-- this entry, at this place, with which the history ends
pub record AddsEntry (me : ℕ) (e : Past) (place : ℕ) (h now : History) : Type 0 where
  pub before : History
  pub begins : IsPrefix h before
  pub ends : now ≡ before ++ e ∷ []
  pub place_is : place ≡ length before
  pub mine : own me now ≡ own me h ++ (place, e) ∷ []

abbrev pub IsPublicationBy : ℕ → Past → Type 0
IsPublicationBy me (Import by r) = ⊥
IsPublicationBy me (Grow by key rows) = ⊥
IsPublicationBy me (Publish by upto) = by ≡ me

-- publications by the caller, at places from one on and below another
abbrev pub ArePublications : ℕ → ℕ → ℕ → List (ℕ × Past) → Type 0
ArePublications me from to [] = Unit {0}
ArePublications me from to (x ∷ xs) = (from ≤ x.0) × (x.0 < to) × IsPublicationBy me x.1 × ArePublications me from to xs

-- at most two publications
pub record PublishesFew (me : ℕ) (h now : History) : Type 0 where
  pub begins : IsPrefix h now
  pub added : List (ℕ × Past)
  pub mine : own me now ≡ own me h ++ added
  pub few : length added ≤ 2
  pub each : ArePublications me (length h) (length now) added

-- ---- replies by the request alone, and by a snapshot

-- it is refused without a step of the book
abbrev pub Refuses : Bool → History → History → Refusal → Sign → Reply → Type 0
Refuses closes h now refusal sign reply = (sign ≡ signs.Plain) × (now ≡ h) × (reply ≡ refusal_reply closes refusal)

-- a look at the book decides
abbrev pub Shows : ℕ → History → History → Reply → Sign → Reply → Type 0
Shows me h now shown sign reply = (sign ≡ signs.Looked) × AddsNothing me h now × (reply ≡ shown)

-- ---- imports and the growth of repositories

-- the advisory is entered, once, at the end
abbrev pub Enters : Settings → Bool → ℕ → History → History → Past → Reply → Type 0
Enters s closes me h now e reply = (place : ℕ) × AddsEntry me e place h now × (weight now ≤ s.weight) × (reply ≡ done_reply closes (entry_body place))

-- there is no room for it
abbrev pub IsFull : Settings → Bool → ℕ → History → History → Past → Reply → Type 0
IsFull s closes me h now e reply =
    AddsNothing me h now × (s.weight < weight now + entry_weight e) × (reply ≡ refusal_reply closes (refusals.JournalFull (weight now) s.weight))

abbrev pub ImportAnswers : Settings → Bool → ℕ → History → History → Result Advisory RecordFault → Sign → Reply → Type 0
ImportAnswers s closes me h now (Err fault) sign reply = Refuses closes h now (refusals.BadAdvisory fault) sign reply
ImportAnswers s closes me h now (Ok r) sign reply =
    (sign ≡ signs.Plain) × (Enters s closes me h now (Import me r) reply ⊎ IsFull s closes me h now (Import me r) reply)

-- the commits of a stream, where at most so many may come
abbrev pub commits_in : ℕ → List ℕ → Result (List CommitRow) StreamFault
commits_in most text = answer (length text) (stream text most)

-- The commits joined the repository's graph, and those that it lacked are entered, once, at the end.
abbrev pub GrowsBy : Settings → Bool → ℕ → History → History → List ℕ → List CommitRow → Reply → Type 0
GrowsBy s closes me h now key rows reply =
    (place : ℕ) × AddsEntry me (Grow me key (drop (length (graph (take place now) key)) (graph now key))) place h now
    × (extended (graph (take place now) key) s.commits rows ≡ Ok (graph now key))
    × (weight now ≤ s.weight) × (reply ≡ done_reply closes (commits_body place (length (graph now key))))

-- there is no room for those that it lacks
abbrev pub LacksRoom : Settings → Bool → ℕ → History → History → List ℕ → List CommitRow → Reply → Type 0
LacksRoom s closes me h now key rows reply =
    (whole : List CommitRow) × (extended (graph now key) s.commits rows ≡ Ok whole) × IsFull s closes me h now (Grow me key (drop (length (graph now key)) whole)) reply

-- some commit doesn't fit the graph
abbrev pub IsMisfit : Settings → Bool → ℕ → History → History → List ℕ → List CommitRow → Reply → Type 0
IsMisfit s closes me h now key rows reply =
    (fault : GraphFault) × (extended (graph now key) s.commits rows ≡ Err fault) × AddsNothing me h now × (reply ≡ refusal_reply closes (refusals.BadGraph fault))

-- others grew the repository after it was looked at
abbrev pub HasMoved : Bool → ℕ → History → History → List ℕ → ℕ → Reply → Type 0
HasMoved closes me h now key seen reply =
    AddsNothing me h now × (grows h key ≤ seen) × (seen < grows now key) × (reply ≡ refusal_reply closes (refusals.RepoMoved seen (grows now key)))

abbrev pub CommitsAnswer : Settings → Bool → ℕ → History → History → List ℕ → List CommitRow → Sign → Reply → Type 0
CommitsAnswer s closes me h now key rows signs.Plain reply = GrowsBy s closes me h now key rows reply ⊎ LacksRoom s closes me h now key rows reply
CommitsAnswer s closes me h now key rows signs.Looked reply = IsMisfit s closes me h now key rows reply
CommitsAnswer s closes me h now key rows (signs.Moved seen) reply = HasMoved closes me h now key seen reply
CommitsAnswer s closes me h now key rows (signs.Published snapshot upto) reply = ⊥
CommitsAnswer s closes me h now key rows (signs.Building out took) reply = ⊥

abbrev pub StreamAnswers : Settings → Bool → ℕ → History → History → List ℕ → Result (List CommitRow) StreamFault → Sign → Reply → Type 0
StreamAnswers s closes me h now key (Err fault) sign reply = Refuses closes h now (refusals.BadStream fault) sign reply
StreamAnswers s closes me h now key (Ok rows) sign reply = CommitsAnswer s closes me h now key rows sign reply

abbrev pub RepoAnswers : Settings → Bool → ℕ → History → History → Option (List ℕ) → List ℕ → Sign → Reply → Type 0
RepoAnswers s closes me h now None body sign reply = Refuses closes h now refusals.RepoMissing sign reply
RepoAnswers s closes me h now (Some key) body sign reply = StreamAnswers s closes me h now key (commits_in s.commits body) sign reply

-- ---- queries

-- a query that doesn't stand in a batch
abbrev pub alone : QueryFault → BatchFault
alone fault = record { index = None; fault = fault }

abbrev pub QueryAnswers : Settings → Bool → ℕ → History → History → Option ℕ → Result Query QueryFault → Sign → Reply → Type 0
QueryAnswers s closes me h now None asked sign reply = Refuses closes h now refusals.BadMinSnapshot sign reply
QueryAnswers s closes me h now (Some least) (Err fault) sign reply = Refuses closes h now (refusals.BadQuery (alone fault)) sign reply
QueryAnswers s closes me h now (Some least) (Ok q) sign reply = Shows me h now (query_reply s.keep s.page closes now least q) sign reply

abbrev pub BatchAnswers : Settings → Bool → ℕ → History → History → Option ℕ → Result (List Query) BatchFault → Sign → Reply → Type 0
BatchAnswers s closes me h now None asked sign reply = Refuses closes h now refusals.BadMinSnapshot sign reply
BatchAnswers s closes me h now (Some least) (Err fault) sign reply = Refuses closes h now (refusals.BadQuery fault) sign reply
BatchAnswers s closes me h now (Some least) (Ok queries) sign reply = Shows me h now (batch_reply s.keep s.page closes now least queries) sign reply

abbrev pub VulnsAnswers : Bool → ℕ → History → History → Option ℕ → List ℕ → Sign → Reply → Type 0
VulnsAnswers closes me h now None id sign reply = Refuses closes h now refusals.BadMinSnapshot sign reply
VulnsAnswers closes me h now (Some least) id sign reply = Shows me h now (vulns_reply closes now least id) sign reply

-- ---- publications

-- the most turns that a publication takes
abbrev pub most_turns : ℕ
most_turns = 268435456

-- jobs of the build are out, or the turns are used up
abbrev pub IsStillBuilding : ℕ → ℕ → Type 0
IsStillBuilding out took = ((1 ≤ out) × (took ≤ most_turns)) ⊎ ((out ≡ 0) × (took ≡ most_turns))

abbrev pub PublishAnswers : Bool → ℕ → History → History → Sign → Reply → Type 0
PublishAnswers closes me h now signs.Plain reply = ⊥
PublishAnswers closes me h now signs.Looked reply = ⊥
PublishAnswers closes me h now (signs.Moved seen) reply = ⊥
PublishAnswers closes me h now (signs.Published snapshot upto) reply =
    (snapshot ≤ newest now) × (upto_of now snapshot ≡ upto) × (length (imports h) ≤ upto) × PublishesFew me h now
    × (reply ≡ done_reply closes (published_body snapshot upto))
PublishAnswers closes me h now (signs.Building out took) reply =
    IsStillBuilding out took × PublishesFew me h now × (reply ≡ done_reply closes (building_body out took))

-- ---- all requests

-- the reply to a request that leads there
abbrev pub AnswersAt : Settings → Bool → ℕ → History → History → Request → Route → Sign → Reply → Type 0
AnswersAt s closes me h now q routes.NoPath sign reply = Refuses closes h now refusals.NoSuchPath sign reply
AnswersAt s closes me h now q (routes.WrongMethod allow) sign reply = (sign ≡ signs.Plain) × (now ≡ h) × (reply ≡ method_reply closes allow)
AnswersAt s closes me h now q routes.Query sign reply = QueryAnswers s closes me h now (least_of q.min) (query q.body) sign reply
AnswersAt s closes me h now q routes.QueryBatch sign reply = BatchAnswers s closes me h now (least_of q.min) (batch q.body) sign reply
AnswersAt s closes me h now q routes.Vulns sign reply = VulnsAnswers closes me h now (least_of q.min) (id_of q.path) sign reply
AnswersAt s closes me h now q routes.Import sign reply = ImportAnswers s closes me h now (advisory q.body) sign reply
AnswersAt s closes me h now q routes.Repo sign reply = RepoAnswers s closes me h now (key_of q.query) q.body sign reply
AnswersAt s closes me h now q routes.Publish sign reply = PublishAnswers closes me h now sign reply

-- the reply to a request
abbrev pub Answers : Settings → Bool → ℕ → History → History → Request → Sign → Reply → Type 0
Answers s closes me h now q sign reply = AnswersAt s closes me h now q (route_of q) sign reply

-- what a request that found no memory may leave: of a publication at most two entries, and else none
abbrev pub LeavesAt : ℕ → History → History → Route → Type 0
LeavesAt me h now routes.NoPath = AddsNothing me h now
LeavesAt me h now (routes.WrongMethod allow) = AddsNothing me h now
LeavesAt me h now routes.Query = AddsNothing me h now
LeavesAt me h now routes.QueryBatch = AddsNothing me h now
LeavesAt me h now routes.Vulns = AddsNothing me h now
LeavesAt me h now routes.Import = AddsNothing me h now
LeavesAt me h now routes.Repo = AddsNothing me h now
LeavesAt me h now routes.Publish = PublishesFew me h now
