-- From a head and its body to what a text asks.
use Rattle.std.proofs.Common.{◌≡◌, ℕ, Bool, false, inr, List, [], Vec, Global, ◌++◌, Option, Some, None, refl, sym, ap, ◌∙◌}
use Rattle.std.proofs.lemmas.List.{append-nil}
use Rattle.std.specs.Io.KnownBytes.{Appends}
use Rattle.http_wire.specs.declared.fault.WireFault.{WireFault}
use Rattle.http_wire.specs.declared.fault.Framing.{Framing}
use Rattle.http_wire.specs.declared.request.Request.{Request}
use Rattle.http_wire.specs.declared.room.Room.{Room}
use Rattle.http_wire.specs.declared.rest.Rest.{Rest}
use Rattle.http_wire.specs.declared.body.ReadBody.TheVariants as read
use Rattle.http_wire.specs.declared.head.GotHead.TheVariants as got_head
use Rattle.http_wire.specs.declared.read.Got.TheVariants as got
use Rattle.http_wire.specs.Chunks.{Body, Whole, Bad, Short}
use Rattle.http_wire.specs.Heads.{HeadTells}
use Rattle.http_wire.specs.Requests.{Head, RefusedHead, EndedBefore, TruncatedHead, Asked, Refused, Ended, Truncated, Opens, Next, body, with_bytes, with_body, followed}
use Rattle.http_wire.specs.Rests.{left_of}
use Rattle.http_wire.specs.Rooms.{limit_at}
use Rattle.http_wire.specs.Wholes.{BodyTells, RequestTells}

-- what is asked behind a head, by what its body is
behind-head : (room : Room) (text : List ℕ) (r : Request) (f : Framing) (waits : Bool) (rest : List ℕ) (b : Body) → Opens room text (Head r f waits rest) → body (limit_at room r.path) f rest ≡ b → Next room text (with_body r waits b)
unfolding followed
behind-head room text r f waits rest b o e = (Head r f waits rest, o, ap (with_body r waits) (sym e))

refused-head : (room : Room) (text : List ℕ) (e : WireFault) → Opens room text (RefusedHead e) → Next room text (Refused e false)
unfolding followed
refused-head room text e o = (RefusedHead e, o, refl)

ended-before : (room : Room) (text : List ℕ) → Opens room text EndedBefore → Next room text Ended
unfolding followed
ended-before room text o = (EndedBefore, o, refl)

truncated-head : (room : Room) (text : List ℕ) → Opens room text TruncatedHead → Next room text (Truncated false)
unfolding followed
truncated-head room text o = (TruncatedHead, o, refl)

stays : (o : Option (List ℕ)) → Appends o o []
stays None = tt
stays (Some xs) = sym (append-nil xs)

-- nothing more was written
pub adds-nothing : (out out_now : Option (List ℕ)) → out_now ≡ out → Appends out out_now []
adds-nothing out out_now e = rw e (stays out)

-- ---- the head alone decides

pub head-refused : (room : Room) (before left out out_now : Option (List ℕ)) (e : WireFault) (held : List ℕ) → HeadTells room before out (got_head.Refused e) held left out_now → RequestTells room before out (got.Refused e) held left out_now
head-refused room None left out out_now e held h = tt
head-refused room (Some text) left out out_now e held h = (false, refused-head room text e h.0, adds-nothing out out_now h.1)

pub head-ended : (room : Room) (before left out out_now : Option (List ℕ)) (held : List ℕ) → HeadTells room before out got_head.Ended held left out_now → RequestTells room before out got.Ended held left out_now
head-ended room None left out out_now held h = tt
head-ended room (Some text) left out out_now held h = (ended-before room text h.0, h.1)

pub head-truncated : (room : Room) (before left out out_now : Option (List ℕ)) (held : List ℕ) → HeadTells room before out got_head.Truncated held left out_now → RequestTells room before out got.Truncated held left out_now
head-truncated room None left out out_now held h = tt
head-truncated room (Some text) left out out_now held h = (false, truncated-head room text h.0, adds-nothing out out_now h.1)

-- ---- the body decides

-- what is left of the body behind the head, which is the text that is left
body-is : (limit : ℕ) (f : Framing) (r : Rest) (rest mid : List ℕ) (b : Body) → ((more : List ℕ) → left_of r more ≡ body limit f more) → Some mid ≡ Some rest → left_of r mid ≡ b → body limit f rest ≡ b
body-is limit f r rest mid b h e l =
    let same : rest ≡ mid = cc in
    ap (body limit f) same ∙ sym (h mid) ∙ l

pub body-whole : (room : Room) (before mid left out out_now : Option (List ℕ)) (q : Request) (r : Rest) (bytes : Vec ℕ Global) (held held_now : List ℕ)
    → HeadTells room before out (got_head.Head q r) held mid out_now → BodyTells r mid (read.Whole bytes) left → RequestTells room before out (got.Request (with_bytes q bytes.items)) held_now left out_now
body-whole room None mid left out out_now q r bytes held held_now h b = tt
body-whole room (Some text) None left out out_now q r bytes held held_now h b = absurd cc
body-whole room (Some text) (Some mid) left out out_now q r bytes held held_now h b =
    (h.1, b.0, b.1, behind-head room text q h.0 h.1 h.2 (Whole bytes.items b.0) h.4 (body-is (limit_at room q.path) h.0 r h.2 mid (Whole bytes.items b.0) h.5 h.3 b.2), h.6)

pub body-refused : (room : Room) (before mid left out out_now : Option (List ℕ)) (q : Request) (r : Rest) (e : WireFault) (held held_now : List ℕ)
    → HeadTells room before out (got_head.Head q r) held mid out_now → BodyTells r mid (read.Refused e) left → RequestTells room before out (got.Refused e) held_now left out_now
body-refused room None mid left out out_now q r e held held_now h b = tt
body-refused room (Some text) None left out out_now q r e held held_now h b = absurd cc
body-refused room (Some text) (Some mid) left out out_now q r e held held_now h b =
    (h.1, behind-head room text q h.0 h.1 h.2 (Bad e) h.4 (body-is (limit_at room q.path) h.0 r h.2 mid (Bad e) h.5 h.3 b), h.6)

pub body-truncated : (room : Room) (before mid left out out_now : Option (List ℕ)) (q : Request) (r : Rest) (held held_now : List ℕ)
    → HeadTells room before out (got_head.Head q r) held mid out_now → BodyTells r mid read.Truncated left → RequestTells room before out got.Truncated held_now left out_now
body-truncated room None mid left out out_now q r held held_now h b = tt
body-truncated room (Some text) None left out out_now q r held held_now h b = absurd cc
body-truncated room (Some text) (Some mid) left out out_now q r held held_now h b =
    (h.1, behind-head room text q h.0 h.1 h.2 Short h.4 (body-is (limit_at room q.path) h.0 r h.2 mid Short h.5 h.3 b), h.6)

pub body-fault : (room : Room) (before mid left out out_now : Option (List ℕ)) (q : Request) (r : Rest) (held held_now : List ℕ)
    → HeadTells room before out (got_head.Head q r) held mid out_now → RequestTells room before out got.ReadFault held_now left out_now
body-fault room None mid left out out_now q r held held_now h = tt
body-fault room (Some text) mid left out out_now q r held held_now h = inr (h.1, (q, h.0, h.2, h.4), h.6)

pub body-no_memory : (room : Room) (before mid left out out_now : Option (List ℕ)) (q : Request) (r : Rest) (held held_now : List ℕ)
    → HeadTells room before out (got_head.Head q r) held mid out_now → RequestTells room before out got.Memory held_now left out_now
body-no_memory room None mid left out out_now q r held held_now h = tt
body-no_memory room (Some text) mid left out out_now q r held held_now h = inr (h.1, (q, h.0, h.2, h.4), h.6)
