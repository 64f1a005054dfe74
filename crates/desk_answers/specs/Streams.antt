-- Requests whose bodies were read as streams of commits, and not kept.
use Rattle.std.specs.Prelude.{◌≡◌, ℕ, List, Option, Some, None, Result}
use Rattle.osv_prim.specs.declared.oid.CommitRow.{CommitRow}
use Rattle.fast_export.specs.declared.fault.StreamFault.{StreamFault}
use Rattle.http_wire.specs.declared.request.Request.{Request}
use Rattle.http_wire.specs.Requests.{with_bytes}
use Rattle.session_model.specs.declared.route.Route.{Route}
use Rattle.session_model.specs.declared.route.Route.TheVariants as routes
use Rattle.session_model.specs.Routes.{route_of}
use Rattle.stream_body.specs.Streams.{Comes}

-- nothing but the commits of a body is wanted there
abbrev pub IsStreamed : Route → Type 0
IsStreamed routes.NoPath = ⊥
IsStreamed (routes.WrongMethod allow) = Unit {0}
IsStreamed routes.Query = ⊥
IsStreamed routes.QueryBatch = ⊥
IsStreamed routes.Vulns = ⊥
IsStreamed routes.Import = ⊥
IsStreamed routes.Repo = Unit {0}
IsStreamed routes.Publish = ⊥

-- The request that was read: with its body, or, where that was read as a stream, without it.
abbrev pub IsRead : ℕ → Request → Option (Result (List CommitRow) StreamFault) → Request → Type 0
IsRead most r None q = q ≡ r
IsRead most r (Some come) q = (body : List ℕ) × (q ≡ with_bytes r body) × IsStreamed (route_of r) × Comes most body come
