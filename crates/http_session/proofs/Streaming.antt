-- Reading a request whose body is not kept.
use Rattle.std.proofs.Common.{◌≡◌, inl, ℕ, List, Vec, Global, Option, Some, None, refl, sym, ap, ◌∙◌}
use Rattle.std.specs.Prelude.{Result}
use Rattle.osv_prim.specs.declared.oid.CommitRow.{CommitRow}
use Rattle.fast_export.specs.declared.fault.StreamFault.{StreamFault}
use Rattle.http_wire.specs.declared.body.ReadBody.TheVariants as body_is
use Rattle.http_wire.specs.declared.head.GotHead.TheVariants as got_head
use Rattle.http_wire.specs.declared.read.Got.TheVariants as got
use Rattle.http_wire.specs.declared.request.Request.{Request}
use Rattle.http_wire.specs.declared.rest.Rest.{Rest}
use Rattle.http_wire.specs.declared.room.Room.{Room}
use Rattle.http_wire.specs.Chunks.{Whole}
use Rattle.http_wire.specs.Heads.{HeadTells}
use Rattle.http_wire.specs.Requests.{Head, Asked, body, with_bytes, with_body, followed}
use Rattle.http_wire.specs.Rooms.{limit_at}
use Rattle.http_wire.specs.Wholes.{BodyTells, RequestTells}
use Rattle.http_wire.proofs.Wholes.{body-refused, body-truncated, body-fault, body-no_memory}
use Rattle.desk_answers.specs.Streams.{IsStreamed}
use Rattle.session_model.specs.Routes.{route_of}
use Rattle.http_session.specs.declared.asked.Asked as session
use Rattle.http_session.specs.declared.asked.Asked.TheVariants as asked_as
use Rattle.stream_body.specs.declared.read.ReadStream.TheVariants as stream_is
use Rattle.stream_body.specs.Streams.{IsWhole, StreamTells}
use Rattle.http_session.specs.Streaming.{BehindTells, AskedTells}

-- ---- behind a head

pub behind-stream : (most : ℕ) (r : Request) (rest : Rest) (text left : Option (List ℕ)) (come : Result (List CommitRow) StreamFault)
    → IsStreamed (route_of r) → StreamTells most rest text (stream_is.Come come) left → BehindTells most r rest text (asked_as.Request r (Some come)) left
behind-stream most r rest text left come s t = (with_bytes r t.0, (t.0, refl, s, t.1), t.0, refl, t.2)

pub behind-body : (most : ℕ) (r whole : Request) (rest : Rest) (text left : Option (List ℕ)) (bytes : Vec ℕ Global)
    → whole ≡ with_bytes r bytes.items → BodyTells rest text (body_is.Whole bytes) left → BehindTells most r rest text (asked_as.Request whole None) left
behind-body most r whole rest None left bytes e t = (whole, refl, bytes.items, e, tt)
behind-body most r whole rest (Some text) left bytes e t = (whole, refl, bytes.items, e, t)

-- ---- with the head

head-whole : (room : Room) (before mid left out out_now : Option (List ℕ)) (r q : Request) (rest : Rest) (bytes : List ℕ) (held held_now : List ℕ)
    → HeadTells room before out (got_head.Head r rest) held mid out_now → IsWhole rest mid bytes left → q ≡ with_bytes r bytes → RequestTells room before out (got.Request q) held_now left out_now
unfolding followed
head-whole room None mid left out out_now r q rest bytes held held_now h w e = tt
head-whole room (Some text) None left out out_now r q rest bytes held held_now h w e = absurd cc
head-whole room (Some text) (Some mid) left out out_now r q rest bytes held held_now h w e =
    let same : h.2 ≡ mid = cc in
    let is : body (limit_at room r.path) h.0 h.2 ≡ Whole bytes w.0 = ap (body (limit_at room r.path) h.0) same ∙ sym (h.5 mid) ∙ w.2 in
    (h.1, w.0, w.1, (Head r h.0 h.1 h.2, h.4, ap (λ (x : Request). Asked x h.1 w.0) e ∙ sym (ap (with_body r h.1) is)), h.6)

pub asked-behind : (most : ℕ) (room : Room) (before mid left out out_now : Option (List ℕ)) (r : Request) (rest : Rest) (a : session.Asked) (held held_now : List ℕ)
    → HeadTells room before out (got_head.Head r rest) held mid out_now → BehindTells most r rest mid a left → AskedTells most room before out a held_now left out_now
asked-behind most room before mid left out out_now r rest (asked_as.Request head come) held held_now h b = (b.0, b.1, head-whole room before mid left out out_now r b.0 rest b.2 held held_now h b.4 b.3)
asked-behind most room before mid left out out_now r rest (asked_as.Refused e) held held_now h b = body-refused room before mid left out out_now r rest e held held_now h b
asked-behind most room before mid left out out_now r rest asked_as.Ended held held_now h b = absurd b
asked-behind most room before mid left out out_now r rest asked_as.Truncated held held_now h b = body-truncated room before mid left out out_now r rest held held_now h b
asked-behind most room before mid left out out_now r rest asked_as.ReadFault held held_now h b = body-fault room before mid left out out_now r rest held held_now h
asked-behind most room before mid left out out_now r rest (asked_as.WriteFault n) held held_now h b = absurd b
asked-behind most room before mid left out out_now r rest asked_as.Memory held held_now h b = body-no_memory room before mid left out out_now r rest held held_now h

-- ---- the head alone

pub head-fault : (room : Room) (before left out out_now : Option (List ℕ)) (held : List ℕ) → HeadTells room before out got_head.ReadFault held left out_now → RequestTells room before out got.ReadFault held left out_now
head-fault room None left out out_now held h = tt
head-fault room (Some text) left out out_now held h = inl h

pub head-cut : (room : Room) (before left out out_now : Option (List ℕ)) (n : ℕ) (held : List ℕ) → HeadTells room before out (got_head.WriteFault n) held left out_now → RequestTells room before out (got.WriteFault n) held left out_now
head-cut room None left out out_now n held h = tt
head-cut room (Some text) left out out_now n held h = h

pub head-no_memory : (room : Room) (before left out out_now : Option (List ℕ)) (held : List ℕ) → HeadTells room before out got_head.Memory held left out_now → RequestTells room before out got.Memory held left out_now
head-no_memory room None left out out_now held h = tt
head-no_memory room (Some text) left out out_now held h = inl h
