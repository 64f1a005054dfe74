-- Requests whose bodies were not kept.
use Rattle.std.proofs.Common.{◌≡◌, ◌≢◌, ℕ, Bool, List, Option, Some, None, Ok, Err, refl, sym, subst, ◌∙◌}
use Rattle.std.specs.Prelude.{Result}
use Rattle.osv_prim.specs.declared.memory.Memory.{Memory}
use Rattle.osv_prim.specs.declared.oid.CommitRow.{CommitRow}
use Rattle.fast_export.specs.declared.fault.StreamFault.{StreamFault}
use Rattle.book_model.specs.Desk.{Caller}
use Rattle.http_wire.specs.declared.request.Request.{Request}
use Rattle.http_wire.specs.Requests.{with_bytes}
use Rattle.session_model.specs.declared.route.Route.{Route}
use Rattle.session_model.specs.declared.route.Route.TheVariants as routes
use Rattle.session_model.specs.Routes.{route_of}
use Rattle.session_model.specs.Runs.{RepliedAt}
use Rattle.stream_body.specs.Streams.{Comes}
use Rattle.desk_answers.specs.declared.reply.Answered.{Answered}
use Rattle.desk_answers.specs.Gives.{Gives, GivesAt}
use Rattle.desk_answers.specs.Streams.{IsRead, IsStreamed}

-- a request leads to where it leads without its body
same-route : (r : Request) (body : List ℕ) → route_of (with_bytes r body) ≡ route_of r
unfolding route_of
same-route r body = refl

-- where another method is asked the body is not looked at
replied-wrong : (old new : Caller) (closes : Bool) (r q : Request) (route : Route) (a : Answered) → IsStreamed route → route ≢ routes.Repo → RepliedAt old new closes r route a.sign a.reply → RepliedAt old new closes q route a.sign a.reply
replied-wrong old new closes r q routes.NoPath a s n h = absurd s
replied-wrong old new closes r q (routes.WrongMethod allow) a s n h = record { goes = h.goes; answers = h.answers; counts = h.counts; outs = h.outs; apart = h.apart; alone = h.alone }
replied-wrong old new closes r q routes.Query a s n h = absurd s
replied-wrong old new closes r q routes.QueryBatch a s n h = absurd s
replied-wrong old new closes r q routes.Vulns a s n h = absurd s
replied-wrong old new closes r q routes.Import a s n h = absurd s
replied-wrong old new closes r q routes.Repo a s n h = absurd (n refl)
replied-wrong old new closes r q routes.Publish a s n h = absurd s

unread : (old new : Caller) (closes : Bool) (r q : Request) (route : Route) (x : Result Answered Memory) → IsStreamed route → route ≢ routes.Repo → GivesAt old new closes r route x → GivesAt old new closes q route x
unread old new closes r q route (Ok a) s n h = replied-wrong old new closes r q route a s n h
unread old new closes r q route (Err e) s n h = h

-- ---- an answer to what was read is one to the request

-- with its body
pub gives-whole : (old new : Caller) (closes : Bool) (most : ℕ) (r q : Request) (come : Option (Result (List CommitRow) StreamFault)) (route : Route) (x : Result Answered Memory)
    → come ≡ None → route ≡ route_of r → GivesAt old new closes r route x → IsRead most r come q → Gives old new closes q x
gives-whole old new closes most r q None route x none at h is =
    subst (λ (y : Request). Gives old new closes y x) (sym is) (subst (λ (to : Route). GivesAt old new closes r to x) at h)
gives-whole old new closes most r q (Some come) route x none at h is = absurd cc

-- without it, where it is not looked at
pub gives-wrong : (old new : Caller) (closes : Bool) (most : ℕ) (r q : Request) (given : Option (Result (List CommitRow) StreamFault)) (come : Result (List CommitRow) StreamFault) (route : Route) (x : Result Answered Memory)
    → given ≡ Some come → route ≡ route_of r → route ≢ routes.Repo → GivesAt old new closes r route x → IsRead most r given q → Gives old new closes q x
gives-wrong old new closes most r q given come route x some at other h is =
    let read : IsRead most r (Some come) q = subst (λ (o : Option (Result (List CommitRow) StreamFault)). IsRead most r o q) some is in
    let streamed : IsStreamed route = subst IsStreamed (sym at) read.2 in
    subst (λ (y : Request). GivesAt old new closes y (route_of y) x) (sym read.1)
    (subst (λ (to : Route). GivesAt old new closes (with_bytes r read.0) to x) (at ∙ sym (same-route r read.0))
    (unread old new closes r (with_bytes r read.0) route x streamed other h))

-- without it, by its commits
pub gives-repo : (old new : Caller) (closes : Bool) (most : ℕ) (r q : Request) (given : Option (Result (List CommitRow) StreamFault)) (come : Result (List CommitRow) StreamFault) (route : Route) (x : Result Answered Memory)
    → given ≡ Some come → route ≡ route_of r → route ≡ routes.Repo → ((body : List ℕ) → Comes most body come → GivesAt old new closes (with_bytes r body) routes.Repo x) → IsRead most r given q → Gives old new closes q x
gives-repo old new closes most r q given come route x some at repo gives is =
    let read : IsRead most r (Some come) q = subst (λ (o : Option (Result (List CommitRow) StreamFault)). IsRead most r o q) some is in
    subst (λ (y : Request). GivesAt old new closes y (route_of y) x) (sym read.1)
    (subst (λ (to : Route). GivesAt old new closes (with_bytes r read.0) to x) (sym repo ∙ at ∙ sym (same-route r read.0)) (gives read.0 read.3))
