-- One turn of a session after another.
use Rattle.std.proofs.Common.{◌≡◌, inl, inr, ℕ, ◌-◌, ◌<◌, Bool, ◌||◌, List, [], ◌∷◌, ◌++◌, map, Option, Some, None, refl, sym, ap, subst, ◌∙◌, arith, length-append}
use Rattle.std.specs.Prelude.{flat_map, nat_le}
use Rattle.std.specs.Io.KnownBytes.{Appends}
use Rattle.std.proofs.lemmas.Grind.{flat_map-append}
use Rattle.std.proofs.lemmas.List.{append-nil, map-append}
use Rattle.std.proofs.lemmas.List.Elements.{All-nil, All-push}
use Rattle.edge_io.proofs.Known.{Appends-then}
use Rattle.settings.specs.declared.Settings.{Settings}
use Rattle.book_model.specs.Desk.{Caller}
use Rattle.http_wire.specs.declared.room.Room.{Room}
use Rattle.http_wire.specs.Replies.{spelled}
use Rattle.http_wire.specs.Requests.{Next, Asked, interim}
use Rattle.http_wire.specs.Series.{Exchange, Asks}
use Rattle.http_wire.proofs.Wholes.{adds-nothing}
use Rattle.session_model.specs.declared.end.End.{End}
use Rattle.session_model.specs.declared.sign.Sign.{Sign}
use Rattle.session_model.specs.Runs.{Done}
use Rattle.session_model.specs.Ends.{room_of, Came, Carried, Failed, Nothing, Happens, Fits, Tells, points_of, signs_of, Turn}
use Rattle.session_model.specs.Sessions.{StaysOpen, written_for, AreAsked, SoFar, Session, IsRun}
use Rattle.session_model.proofs.Runs.{runs-push}

asks-more : (room : Room) (text mid rest : List ℕ) (xs : List Exchange) (x : Exchange) → Asks room text xs mid → Next room mid (Asked x.request x.waits rest) → Asks room text (xs ++ x ∷ []) rest
asks-more room text mid rest [] x a n = (rest, subst (λ (t : List ℕ). Next room t (Asked x.request x.waits rest)) a n, refl)
asks-more room text mid rest (y ∷ ys) x a n = (a.0, a.1, asks-more room a.0 mid rest ys x a.2 n)

asked-push : (s : Settings) (text out left_mid out_mid rest left out_now : Option (List ℕ)) (ds : List Done) (d : Done)
    → AreAsked s text out ds left_mid out_mid → Tells s left_mid out_mid (Carried d) None rest left out_now → AreAsked s text out (ds ++ d ∷ []) left out_now
asked-push s None out left_mid out_mid rest left out_now ds d a t = tt
asked-push s (Some text) out None out_mid rest left out_now ds d a t = absurd a
asked-push s (Some text) out (Some behind) out_mid rest left out_now ds d a t =
    let bytes : flat_map written_for (ds ++ d ∷ []) ≡ flat_map written_for ds ++ written_for d =
    flat_map-append written_for ds (d ∷ []) ∙ ap (λ (l : List ℕ). flat_map written_for ds ++ l) (append-nil (written_for d)) in
    let piece : Appends out_mid out_now (written_for d) = Appends-then out_mid t.1.0 out_now (interim d.asked.waits) (spelled d.reply) t.1.1 t.1.2 in
    subst (λ (l : Option (List ℕ)). AreAsked s (Some text) out (ds ++ d ∷ []) l out_now) (sym t.0.2) (
      subst (λ (xs : List Exchange). Asks (room_of s) text xs t.0.0) (sym (map-append (λ (x : Done). x.asked) ds (d ∷ [])))
          (asks-more (room_of s) text behind t.0.0 (map (λ (x : Done). x.asked) ds) d.asked a.0 t.0.1),
      subst (λ (b : List ℕ). Appends out out_now b) (sym bytes) (Appends-then out out_mid out_now (flat_map written_for ds) (written_for d) a.1 piece),
    )

-- no request yet
pub none-yet : (s : Settings) (c : Caller) (text out : Option (List ℕ)) (points : List ℕ) (signs : List Sign) → points ≡ [] → signs ≡ [] → SoFar s s.requests c c text out text out points signs
none-yet s c text out points signs p g = record {
  done = [];
  runs = refl;
  open_ = All-nil StaysOpen;
  count = omega arith;
  points_are = p;
  signs_are = g;
  asked = none_asked s text out;
}
  where
    none_asked : (s : Settings) (text out : Option (List ℕ)) → AreAsked s text out [] text out
    none_asked s None out = tt
    none_asked s (Some text) out = (refl, adds-nothing out out refl)

more_step : (s : Settings) (more : ℕ) (old mid new : Caller) (text out left_mid out_mid rest left out_now : Option (List ℕ)) (points points_now : List ℕ) (signs signs_now : List Sign) (came : Came)
    → 0 < more → SoFar s more old mid text out left_mid out_mid points signs
    → Happens mid new came → Fits (nat_le more 1) came None → Tells s left_mid out_mid came None rest left out_now → points_now ≡ points ++ points_of came → signs_now ≡ signs ++ signs_of came
    → SoFar s (more - 1) old new text out left out_now points_now signs_now
more_step s more old mid new text out left_mid out_mid rest left out_now points points_now signs signs_now (Carried d) some a h f t p g = record {
  done = a.done ++ d ∷ [];
  runs = runs-push old mid new a.done d a.runs h;
  open_ = All-push StaysOpen a.done d a.open_ (f.1.0, f.0 ∙ ap (λ (b : Bool). b || nat_le more 1) f.1.0 ∙ f.1.1);
  count = omega (arith, a.count, some, length-append a.done (d ∷ []));
  points_are = p ∙ ap (λ (ns : List ℕ). ns ++ d.point ∷ []) a.points_are ∙ sym (map-append (λ (x : Done). x.point) a.done (d ∷ []));
  signs_are = g ∙ ap (λ (gs : List Sign). gs ++ d.sign ∷ []) a.signs_are ∙ sym (map-append (λ (x : Done). x.sign) a.done (d ∷ []));
  asked = asked-push s text out left_mid out_mid rest left out_now a.done d a.asked t;
}
more_step s more old mid new text out left_mid out_mid rest left out_now points points_now signs signs_now (Failed x) some a h f t p g = absurd f
more_step s more old mid new text out left_mid out_mid rest left out_now points points_now signs signs_now Nothing some a h f t p g = absurd f

-- a turn that doesn't end the session
pub turn-more : (s : Settings) (more : ℕ) (old mid new : Caller) (text out left_mid out_mid rest left out_now : Option (List ℕ)) (points points_now : List ℕ) (signs signs_now : List Sign)
    → 0 < more → SoFar s more old mid text out left_mid out_mid points signs
    → Turn s (nat_le more 1) mid new left_mid out_mid None rest left out_now points points_now signs signs_now
    → SoFar s (more - 1) old new text out left out_now points_now signs_now
turn-more s more old mid new text out left_mid out_mid rest left out_now points points_now signs signs_now some a t =
    more_step s more old mid new text out left_mid out_mid rest left out_now points points_now signs signs_now t.came some a t.happens t.fits t.tells t.points_are t.signs_are

-- a turn that ends it
pub turn-ends : (s : Settings) (more : ℕ) (old mid new : Caller) (text out left_mid out_mid rest left out_now : Option (List ℕ)) (points points_now : List ℕ) (signs signs_now : List Sign) (end : End)
    → 0 < more → SoFar s more old mid text out left_mid out_mid points signs
    → Turn s (nat_le more 1) mid new left_mid out_mid (Some end) rest left out_now points points_now signs signs_now
    → Session s old new text rest out out_now points_now signs_now end
turn-ends s more old mid new text out left_mid out_mid rest left out_now points points_now signs signs_now end some a t = record {
  more = more;
  some = some;
  mid = mid;
  left_mid = left_mid;
  out_mid = out_mid;
  points_mid = points;
  signs_mid = signs;
  so_far = a;
  left = left;
  ended = t;
}

run_step : (s : Settings) (more : ℕ) (old mid new : Caller) (text out left out_now : Option (List ℕ)) (points points_now : List ℕ) (signs signs_now : List Sign) (came : Came)
    → SoFar s more old mid text out left out_now points signs → Happens mid new came → points_now ≡ points ++ points_of came → signs_now ≡ signs ++ signs_of came → IsRun old new points_now signs_now
run_step s more old mid new text out left out_now points points_now signs signs_now (Carried d) a h p g = record {
  done = a.done ++ d ∷ [];
  mid = new;
  runs = runs-push old mid new a.done d a.runs h;
  points_are = p ∙ ap (λ (ns : List ℕ). ns ++ d.point ∷ []) a.points_are ∙ sym (map-append (λ (x : Done). x.point) a.done (d ∷ []));
  signs_are = g ∙ ap (λ (gs : List Sign). gs ++ d.sign ∷ []) a.signs_are ∙ sym (map-append (λ (x : Done). x.sign) a.done (d ∷ []));
  rest = inl refl;
}
run_step s more old mid new text out left out_now points points_now signs signs_now (Failed x) a h p g =
    record { done = a.done; mid = mid; runs = a.runs; points_are = p ∙ append-nil points ∙ a.points_are; signs_are = g ∙ append-nil signs ∙ a.signs_are; rest = inr (x, h) }
run_step s more old mid new text out left out_now points points_now signs signs_now Nothing a h p g =
    record { done = a.done; mid = mid; runs = a.runs; points_are = p ∙ append-nil points ∙ a.points_are; signs_are = g ∙ append-nil signs ∙ a.signs_are; rest = inl h }

pub session-run : (s : Settings) (old new : Caller) (text rest out out_now : Option (List ℕ)) (points : List ℕ) (signs : List Sign) (end : End) → Session s old new text rest out out_now points signs end → IsRun old new points signs
session-run s old new text rest out out_now points signs end v =
    run_step s v.more old v.mid new text out v.left_mid v.out_mid v.points_mid points v.signs_mid signs v.ended.came v.so_far v.ended.happens v.ended.points_are v.ended.signs_are
