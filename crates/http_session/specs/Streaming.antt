-- What reading a request comes to, where the body of a stream is not kept. No public clause cites this module.
use Rattle.std.specs.Prelude.{◌≡◌, ℕ, List, Option, None}
use Rattle.http_wire.specs.declared.body.ReadBody.TheVariants as body_is
use Rattle.http_wire.specs.declared.head.GotHead.{GotHead}
use Rattle.http_wire.specs.declared.read.Got.TheVariants as got
use Rattle.http_wire.specs.declared.request.Request.{Request}
use Rattle.http_wire.specs.declared.rest.Rest.{Rest}
use Rattle.http_wire.specs.declared.room.Room.{Room}
use Rattle.http_wire.specs.Requests.{with_bytes}
use Rattle.http_wire.specs.Wholes.{BodyTells, RequestTells}
use Rattle.stream_body.specs.Streams.{IsWhole}
use Rattle.desk_answers.specs.Streams.{IsRead}
use Rattle.http_session.specs.declared.asked.Asked.{Asked}
use Rattle.http_session.specs.declared.asked.Asked.TheVariants as asked_as

-- what reading on behind the head of a request tells
abbrev pub BehindTells : ℕ → Request → Rest → Option (List ℕ) → Asked → Option (List ℕ) → Type 0
BehindTells most r rest text (asked_as.Request head come) left =
    (q : Request) × IsRead most head come q × (body : List ℕ) × (q ≡ with_bytes r body) × IsWhole rest text body left
BehindTells most r rest text (asked_as.Refused e) left = BodyTells rest text (body_is.Refused e) left
BehindTells most r rest text asked_as.Ended left = ⊥
BehindTells most r rest text asked_as.Truncated left = BodyTells rest text body_is.Truncated left
BehindTells most r rest text asked_as.ReadFault left = Unit {0}
BehindTells most r rest text (asked_as.WriteFault n) left = ⊥
BehindTells most r rest text asked_as.Memory left = Unit {0}

-- What was read tells of a text what reading the whole request does.
abbrev pub AskedTells : ℕ → Room → Option (List ℕ) → Option (List ℕ) → Asked → List ℕ → Option (List ℕ) → Option (List ℕ) → Type 0
AskedTells most room text out (asked_as.Request head come) held left out_now =
    (q : Request) × IsRead most head come q × RequestTells room text out (got.Request q) held left out_now
AskedTells most room text out (asked_as.Refused e) held left out_now = RequestTells room text out (got.Refused e) held left out_now
AskedTells most room text out asked_as.Ended held left out_now = RequestTells room text out got.Ended held left out_now
AskedTells most room text out asked_as.Truncated held left out_now = RequestTells room text out got.Truncated held left out_now
AskedTells most room text out asked_as.ReadFault held left out_now = RequestTells room text out got.ReadFault held left out_now
AskedTells most room text out (asked_as.WriteFault n) held left out_now = RequestTells room text out (got.WriteFault n) held left out_now
AskedTells most room text out asked_as.Memory held left out_now = RequestTells room text out got.Memory held left out_now

-- the interim could not be written
abbrev pub IsCut : Asked → Type 0
IsCut (asked_as.Request head come) = ⊥
IsCut (asked_as.Refused e) = ⊥
IsCut asked_as.Ended = ⊥
IsCut asked_as.Truncated = ⊥
IsCut asked_as.ReadFault = ⊥
IsCut (asked_as.WriteFault n) = Unit {0}
IsCut asked_as.Memory = ⊥
