-- One request, and one turn of a session.
use Rattle.std.proofs.Common.{◌≡◌, inl, inr, ℕ, ◌≤◌, Bool, true, false, ◌||◌, List, [], ◌∷◌, ◌++◌, length, Option, Some, None, Ok, Err, refl, sym, ap, subst, ◌∙◌}
use Rattle.std.specs.Prelude.{nat_le, Result}
use Rattle.std.specs.Io.KnownBytes.{Appends, prepend_known}
use Rattle.std.proofs.lemmas.List.{append-nil}
use Rattle.settings.specs.declared.Settings.{Settings}
use Rattle.osv_prim.specs.declared.memory.Memory.{Memory}
use Rattle.osv_prim.specs.declared.oid.CommitRow.{CommitRow}
use Rattle.fast_export.specs.declared.fault.StreamFault.{StreamFault}
use Rattle.history.specs.Legality.{IsLegal}
use Rattle.book_model.specs.Desk.{Caller}
use Rattle.http_wire.specs.declared.fault.WireFault.{WireFault}
use Rattle.http_wire.specs.declared.request.Request.{Request}
use Rattle.http_wire.specs.declared.read.Got.TheVariants as got
use Rattle.http_wire.specs.Replies.{spelled}
use Rattle.http_wire.specs.Requests.{Next, Refused, interim}
use Rattle.http_wire.specs.Wholes.{RequestTells}
use Rattle.http_wire.proofs.Wholes.{adds-nothing}
use Rattle.session_model.specs.declared.end.End.{End}
use Rattle.session_model.specs.declared.end.End.TheVariants as ends
use Rattle.session_model.specs.declared.sign.Sign.{Sign}
use Rattle.session_model.specs.Routes.{route_of}
use Rattle.session_model.specs.Replies.{wire_reply}
use Rattle.session_model.specs.Ends.{Failed, Nothing, Happens, GoesOn, StopsBy, Writes, WritesBehind, IsAsked, Tells, TellsOf, Turn, room_of}
use Rattle.session_model.specs.Sessions.{Session, SoFar}
use Rattle.session_model.proofs.Apart.{unanswered-none}
use Rattle.session_model.proofs.Sessions.{none-yet, turn-ends}
use Rattle.desk_answers.specs.declared.reply.Answered as given
use Rattle.desk_answers.specs.Gives.{Gives}
use Rattle.desk_answers.specs.Streams.{IsRead}
use Rattle.http_session.specs.Serving.{Fate, Answered, Unanswered, FateFits, Serves, Fails, IsSomeFault, RefusesBy, RefusesSo, came_of, fate_text, fate_points, fate_signs}

-- ---- what came of a request

-- there was no memory for it
unanswered : (last : Bool) (old new : Caller) (q : Request) (out out_now : Option (List ℕ)) (end : End) (points points_now : List ℕ) (signs signs_now : List Sign)
    → ((waits : Bool) → Happens old new (Failed (record { request = q; waits = waits }))) → Fails out end out_now → points_now ≡ points → signs_now ≡ signs
    → Serves last old new q out (Some end) out_now points points_now signs signs_now
unanswered last old new q out out_now end points points_now signs signs_now h f p g = record {
  fate = Unanswered;
  happens = h;
  fits = f.0;
  writes = f.1;
  points_are = p ∙ sym (append-nil points);
  signs_are = g ∙ sym (append-nil signs);
}

-- before the book was asked
pub unasked : (last : Bool) (c : Caller) (q : Request) (out out_now : Option (List ℕ)) (end : End) (points points_now : List ℕ) (signs signs_now : List Sign)
    → IsLegal c.front → Fails out end out_now → points_now ≡ points → signs_now ≡ signs → Serves last c c q out (Some end) out_now points points_now signs signs_now
unasked last c q out out_now end points points_now signs signs_now legal = unanswered last c c q out out_now end points points_now signs signs_now (λ waits. unanswered-none c (route_of q) legal)

-- behind its steps of the book
pub given-up : (last closes : Bool) (old new : Caller) (q : Request) (e : Memory) (out out_now : Option (List ℕ)) (end : End) (points points_now : List ℕ) (signs signs_now : List Sign)
    → Gives old new closes q (Err e) → Fails out end out_now → points_now ≡ points → signs_now ≡ signs → Serves last old new q out (Some end) out_now points points_now signs signs_now
given-up last closes old new q e out out_now end points points_now signs signs_now g = unanswered last old new q out out_now end points points_now signs signs_now (λ waits. g)

-- it was answered, and the reply was written, or its front
pub answered : (last : Bool) (old new : Caller) (q : Request) (a : given.Answered) (out out_now : Option (List ℕ)) (end : Option End) (point : ℕ) (points points_now : List ℕ) (signs signs_now : List Sign)
    → Gives old new (q.close || last) q (Ok a) → point ≡ length new.front → GoesOn q.close last end → Writes out (spelled a.reply) end out_now
    → points_now ≡ points ++ point ∷ [] → signs_now ≡ signs ++ a.sign ∷ [] → Serves last old new q out end out_now points points_now signs signs_now
answered last old new q a out out_now end point points points_now signs signs_now g at f w p s = record {
  fate = Answered point a.sign a.reply;
  happens = λ waits. record { point_is = at; replied = g };
  fits = f;
  writes = w;
  points_are = p;
  signs_are = s;
}

-- a request asks for close with its body and without
pub same-close : (most : ℕ) (r q : Request) (come : Option (Result (List CommitRow) StreamFault)) → IsRead most r come q → q.close ≡ r.close
same-close most r q None h = ap (λ (x : Request). x.close) h
same-close most r q (Some come) h = ap (λ (x : Request). x.close) h.1

-- the settings stay
pub serves-settings : (last : Bool) (old new : Caller) (q : Request) (out : Option (List ℕ)) (end : Option End) (out_now : Option (List ℕ)) (points points_now : List ℕ) (signs signs_now : List Sign)
    → Serves last old new q out end out_now points points_now signs signs_now → new.settings ≡ old.settings
serves-settings last old new q out end out_now points points_now signs signs_now v = settings-by old new q (q.close || last) v.fate (v.happens true)
  where
    settings-by : (old new : Caller) (q : Request) (closes : Bool) (fate : Fate) → Happens old new (came_of q true closes fate) → new.settings ≡ old.settings
    settings-by old new q closes (Answered point sign reply) h = h.replied.goes.settings
    settings-by old new q closes Unanswered h = h.goes.settings

-- a text that was written as a whole
pub writes-whole : (out : Option (List ℕ)) (text : List ℕ) (end : Option End) (out_now : Option (List ℕ)) → (IsSomeFault end → ⊥) → Appends out out_now text → Writes out text end out_now
writes-whole out text None out_now calm a = a
writes-whole out text (Some ends.Ended) out_now calm a = a
writes-whole out text (Some ends.Asked) out_now calm a = a
writes-whole out text (Some ends.Served) out_now calm a = a
writes-whole out text (Some (ends.Refused fault)) out_now calm a = a
writes-whole out text (Some ends.Truncated) out_now calm a = a
writes-whole out text (Some ends.ReadFault) out_now calm a = a
writes-whole out text (Some (ends.WriteFault n)) out_now calm a = absurd (calm tt)
writes-whole out text (Some ends.Memory) out_now calm a = a

tells_of : (s : Settings) (text : List ℕ) (out rest left out_now : Option (List ℕ)) (q : Request) (waits closes : Bool) (fate : Fate) (end : Option End)
    → IsAsked s text (record { request = q; waits = waits }) left → WritesBehind out waits (fate_text fate) end out_now → TellsOf s text out (came_of q waits closes fate) end rest left out_now
tells_of s text out rest left out_now q waits closes (Answered point sign reply) end i w = (i, w)
tells_of s text out rest left out_now q waits closes Unanswered end i w = (i, w)

turn_of : (s : Settings) (last : Bool) (old new : Caller) (text out : Option (List ℕ)) (end : Option End) (rest left out_now : Option (List ℕ)) (points points_now : List ℕ) (signs signs_now : List Sign) (q : Request) (waits : Bool) (fate : Fate)
    → Happens old new (came_of q waits (q.close || last) fate) → FateFits q.close last fate end → Tells s text out (came_of q waits (q.close || last) fate) end rest left out_now
    → points_now ≡ points ++ fate_points fate → signs_now ≡ signs ++ fate_signs fate → Turn s last old new text out end rest left out_now points points_now signs signs_now
turn_of s last old new text out end rest left out_now points points_now signs signs_now q waits (Answered point sign reply) h f t p g =
    record { came = came_of q waits (q.close || last) (Answered point sign reply); happens = h; fits = (refl, f); tells = t; points_are = p; signs_are = g }
turn_of s last old new text out end rest left out_now points points_now signs signs_now q waits Unanswered h f t p g =
    record { came = came_of q waits (q.close || last) Unanswered; happens = h; fits = f; tells = t; points_are = p; signs_are = g }

pub served-turn : (s : Settings) (last : Bool) (old new : Caller) (text out mid : Option (List ℕ)) (end : Option End) (rest left out_now : Option (List ℕ)) (points points_now : List ℕ) (signs signs_now : List Sign) (q : Request) (held : List ℕ)
    → RequestTells (room_of s) text out (got.Request q) held left mid → Serves last old new q mid end out_now points points_now signs signs_now
    → Turn s last old new text out end rest left out_now points points_now signs signs_now
served-turn s last old new None out mid end rest left out_now points points_now signs signs_now q held h v =
    turn_of s last old new None out end rest left out_now points points_now signs signs_now q false v.fate (v.happens false) v.fits tt v.points_are v.signs_are
served-turn s last old new (Some text) out mid end rest left out_now points points_now signs signs_now q held h v =
    turn_of s last old new (Some text) out end rest left out_now points points_now signs signs_now q h.0 v.fate (v.happens h.0) v.fits
    (tells_of s text out rest left out_now q h.0 (q.close || last) v.fate end (h.1, h.3, h.2) (mid, h.4, v.writes)) v.points_are v.signs_are

-- ---- no request was read

pub stopped-turn : (s : Settings) (last : Bool) (c : Caller) (text out : Option (List ℕ)) (end : End) (rest left out_now : Option (List ℕ)) (points : List ℕ) (signs : List Sign)
    → StopsBy (Some end) → Tells s text out Nothing (Some end) rest left out_now → Turn s last c c text out (Some end) rest left out_now points points signs signs
stopped-turn s last c text out end rest left out_now points signs b t =
    record { came = Nothing; happens = refl; fits = b; tells = t; points_are = sym (append-nil points); signs_are = sym (append-nil signs) }

pub ended-turn : (s : Settings) (last : Bool) (c : Caller) (text out rest left out_now : Option (List ℕ)) (points : List ℕ) (signs : List Sign) (held : List ℕ)
    → RequestTells (room_of s) text out got.Ended held left out_now → Turn s last c c text out (Some ends.Ended) rest left out_now points points signs signs
ended-turn s last c None out rest left out_now points signs held h = stopped-turn s last c None out ends.Ended rest left out_now points signs tt tt
ended-turn s last c (Some text) out rest left out_now points signs held h = stopped-turn s last c (Some text) out ends.Ended rest left out_now points signs tt h

pub truncated-turn : (s : Settings) (last : Bool) (c : Caller) (text out rest left out_now : Option (List ℕ)) (points : List ℕ) (signs : List Sign) (held : List ℕ)
    → RequestTells (room_of s) text out got.Truncated held left out_now → Turn s last c c text out (Some ends.Truncated) rest left out_now points points signs signs
truncated-turn s last c None out rest left out_now points signs held h = stopped-turn s last c None out ends.Truncated rest left out_now points signs tt tt
truncated-turn s last c (Some text) out rest left out_now points signs held h = stopped-turn s last c (Some text) out ends.Truncated rest left out_now points signs tt h

pub fault-turn : (s : Settings) (last : Bool) (c : Caller) (text out rest out_now : Option (List ℕ)) (points : List ℕ) (signs : List Sign) (held : List ℕ)
    → RequestTells (room_of s) text out got.ReadFault held (prepend_known held rest) out_now → Turn s last c c text out (Some ends.ReadFault) rest (prepend_known held rest) out_now points points signs signs
fault-turn s last c None out rest out_now points signs held h = stopped-turn s last c None out ends.ReadFault rest (prepend_known held rest) out_now points signs tt tt
fault-turn s last c (Some text) out rest out_now points signs held (inl h) =
    stopped-turn s last c (Some text) out ends.ReadFault rest (prepend_known held rest) out_now points signs tt (inl ((held, h.0, h.1), h.2))
fault-turn s last c (Some text) out rest out_now points signs held (inr h) = stopped-turn s last c (Some text) out ends.ReadFault rest (prepend_known held rest) out_now points signs tt (inr h)

pub cut-turn : (s : Settings) (last : Bool) (c : Caller) (text out rest left out_now : Option (List ℕ)) (points : List ℕ) (signs : List Sign) (n : ℕ) (held : List ℕ)
    → RequestTells (room_of s) text out (got.WriteFault n) held left out_now → Turn s last c c text out (Some (ends.WriteFault n)) rest left out_now points points signs signs
cut-turn s last c None out rest left out_now points signs n held h = stopped-turn s last c None out (ends.WriteFault n) rest left out_now points signs tt tt
cut-turn s last c (Some text) out rest left out_now points signs n held h = stopped-turn s last c (Some text) out (ends.WriteFault n) rest left out_now points signs tt (inl h)

-- a failure behind what was written before it
behind_failure : (s : Settings) (last : Bool) (c : Caller) (text : List ℕ) (out mid rest left out_now : Option (List ℕ)) (points : List ℕ) (signs : List Sign) (waits : Bool) (end : End)
    → Appends out mid (interim waits) → Fails mid end out_now → Turn s last c c (Some text) out (Some end) rest left out_now points points signs signs
behind_failure s last c text out mid rest left out_now points signs waits ends.Ended a f = absurd f.0
behind_failure s last c text out mid rest left out_now points signs waits ends.Asked a f = absurd f.0
behind_failure s last c text out mid rest left out_now points signs waits ends.Served a f = absurd f.0
behind_failure s last c text out mid rest left out_now points signs waits (ends.Refused e) a f = absurd f.0
behind_failure s last c text out mid rest left out_now points signs waits ends.Truncated a f = absurd f.0
behind_failure s last c text out mid rest left out_now points signs waits ends.ReadFault a f = absurd f.0
behind_failure s last c text out mid rest left out_now points signs waits (ends.WriteFault n) a f =
    stopped-turn s last c (Some text) out (ends.WriteFault n) rest left out_now points signs tt (inr (inr (waits, (mid, a, f.1))))
behind_failure s last c text out mid rest left out_now points signs waits ends.Memory a f =
    stopped-turn s last c (Some text) out ends.Memory rest left out_now points signs tt (waits, (mid, a, f.1))

untold_failure : (s : Settings) (last : Bool) (c : Caller) (out mid rest left out_now : Option (List ℕ)) (points : List ℕ) (signs : List Sign) (end : End)
    → Fails mid end out_now → Turn s last c c None out (Some end) rest left out_now points points signs signs
untold_failure s last c out mid rest left out_now points signs ends.Ended f = absurd f.0
untold_failure s last c out mid rest left out_now points signs ends.Asked f = absurd f.0
untold_failure s last c out mid rest left out_now points signs ends.Served f = absurd f.0
untold_failure s last c out mid rest left out_now points signs (ends.Refused e) f = absurd f.0
untold_failure s last c out mid rest left out_now points signs ends.Truncated f = absurd f.0
untold_failure s last c out mid rest left out_now points signs ends.ReadFault f = absurd f.0
untold_failure s last c out mid rest left out_now points signs (ends.WriteFault n) f = stopped-turn s last c None out (ends.WriteFault n) rest left out_now points signs tt tt
untold_failure s last c out mid rest left out_now points signs ends.Memory f = stopped-turn s last c None out ends.Memory rest left out_now points signs tt tt

pub failed-turn : (s : Settings) (last : Bool) (c : Caller) (text out mid rest left out_now : Option (List ℕ)) (points : List ℕ) (signs : List Sign) (held : List ℕ) (end : End)
    → RequestTells (room_of s) text out got.Memory held left mid → Fails mid end out_now → Turn s last c c text out (Some end) rest left out_now points points signs signs
failed-turn s last c None out mid rest left out_now points signs held end h f = untold_failure s last c out mid rest left out_now points signs end f
failed-turn s last c (Some text) out mid rest left out_now points signs held end (inl h) f = behind_failure s last c text out mid rest left out_now points signs false end (adds-nothing out mid h) f
failed-turn s last c (Some text) out mid rest left out_now points signs held end (inr h) f = behind_failure s last c text out mid rest left out_now points signs h.0 end h.2 f

-- before anything was read
pub failed-first : (s : Settings) (last : Bool) (c : Caller) (text out rest left out_now : Option (List ℕ)) (points : List ℕ) (signs : List Sign) (end : End)
    → Fails out end out_now → Turn s last c c text out (Some end) rest left out_now points points signs signs
failed-first s last c None out rest left out_now points signs end f = untold_failure s last c out out rest left out_now points signs end f
failed-first s last c (Some text) out rest left out_now points signs end f = behind_failure s last c text out out rest left out_now points signs false end (adds-nothing out out refl) f

refused_by : (s : Settings) (last : Bool) (c : Caller) (text out mid rest left out_now : Option (List ℕ)) (points : List ℕ) (signs : List Sign) (fault : WireFault) (held : List ℕ) (end : End)
    → RequestTells (room_of s) text out (got.Refused fault) held left mid → RefusesBy fault end → Writes mid (spelled (wire_reply fault)) (Some end) out_now
    → Turn s last c c text out (Some end) rest left out_now points points signs signs
refused_by s last c text out mid rest left out_now points signs fault held ends.Ended h r w = absurd r
refused_by s last c text out mid rest left out_now points signs fault held ends.Asked h r w = absurd r
refused_by s last c text out mid rest left out_now points signs fault held ends.Served h r w = absurd r
refused_by s last c None out mid rest left out_now points signs fault held (ends.Refused e) h r w = stopped-turn s last c None out (ends.Refused e) rest left out_now points signs tt tt
refused_by s last c (Some text) out mid rest left out_now points signs fault held (ends.Refused e) h r w =
    stopped-turn s last c (Some text) out (ends.Refused e) rest left out_now points signs tt
    (h.0, subst (λ (x : WireFault). Next (room_of s) text (Refused x h.0)) (sym r) h.1, (mid, h.2, subst (λ (x : WireFault). Appends mid out_now (spelled (wire_reply x))) (sym r) w))
refused_by s last c text out mid rest left out_now points signs fault held ends.Truncated h r w = absurd r
refused_by s last c text out mid rest left out_now points signs fault held ends.ReadFault h r w = absurd r
refused_by s last c None out mid rest left out_now points signs fault held (ends.WriteFault n) h r w = stopped-turn s last c None out (ends.WriteFault n) rest left out_now points signs tt tt
refused_by s last c (Some text) out mid rest left out_now points signs fault held (ends.WriteFault n) h r w =
    stopped-turn s last c (Some text) out (ends.WriteFault n) rest left out_now points signs tt (inr (inl (fault, (h.0, h.1, (mid, h.2, w)))))
refused_by s last c text out mid rest left out_now points signs fault held ends.Memory h r w = absurd r

pub refused-turn : (s : Settings) (last : Bool) (c : Caller) (text out mid rest left out_now : Option (List ℕ)) (points : List ℕ) (signs : List Sign) (fault : WireFault) (held : List ℕ) (end : End)
    → RequestTells (room_of s) text out (got.Refused fault) held left mid → RefusesSo fault mid end out_now
    → Turn s last c c text out (Some end) rest left out_now points points signs signs
refused-turn s last c text out mid rest left out_now points signs fault held end h (inl r) = refused_by s last c text out mid rest left out_now points signs fault held end h r.0 r.1
refused-turn s last c None out mid rest left out_now points signs fault held end h (inr f) = untold_failure s last c out mid rest left out_now points signs end f
refused-turn s last c (Some text) out mid rest left out_now points signs fault held end h (inr f) = behind_failure s last c text out mid rest left out_now points signs h.0 end h.2 f

-- ---- the first turn

tells-nothing : (held : List ℕ) (o : Option (List ℕ)) → held ≡ [] → prepend_known held o ≡ o
tells-nothing held None e = refl
tells-nothing held (Some xs) e = ap (λ (l : List ℕ). Some (l ++ xs)) e

pub none-read : (s : Settings) (c : Caller) (text out : Option (List ℕ)) (held points : List ℕ) (signs : List Sign) → held ≡ [] → points ≡ [] → signs ≡ [] → SoFar s s.requests c c text out (prepend_known held text) out points signs
none-read s c text out held points signs h p g =
    subst (λ (left : Option (List ℕ)). SoFar s s.requests c c text out left out points signs) (sym (tells-nothing held text h)) (none-yet s c text out points signs p g)

pub failed-session : (s : Settings) (c : Caller) (text out out_now : Option (List ℕ)) (points : List ℕ) (signs : List Sign) (end : End) → 1 ≤ s.requests → points ≡ [] → signs ≡ [] → Fails out end out_now
    → Session s c c text text out out_now points signs end
failed-session s c text out out_now points signs end some p g f =
    turn-ends s s.requests c c c text out text out text text out_now points points signs signs end some (none-yet s c text out points signs p g)
    (failed-first s (nat_le s.requests 1) c text out text text out_now points signs end f)
