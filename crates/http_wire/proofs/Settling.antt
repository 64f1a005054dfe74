-- One step after another.
use Rattle.std.proofs.Common.{◌≡◌, ℕ, Global, List, [], ◌++◌, Option, Some, None, refl, sym, ap, ◌∙◌}
use Rattle.std.proofs.lemmas.List.{append-nil}
use Rattle.std.specs.declared.vec.Vec.{Vec}
use Rattle.http_wire.specs.declared.fault.WireFault.{WireFault}
use Rattle.http_wire.specs.declared.rest.Rest.{Rest}
use Rattle.http_wire.specs.declared.body.ReadBody.TheVariants as read
use Rattle.http_wire.specs.Rests.{left_of, TellsPart, PartOf, PartBehind, ReadSoFar}
use Rattle.http_wire.specs.Wholes.{BodyTells}
use Rattle.http_wire.proofs.Chunked.{behind-none, behind-behind}
use Rattle.http_wire.specs.declared.chunk.Step.{Step}
use Rattle.http_wire.specs.declared.chunk.Step.TheVariants as steps
use Rattle.http_wire.specs.declared.rest.Stage.{Stage}
use Rattle.http_wire.specs.declared.rest.Part.{Part}
use Rattle.http_wire.specs.declared.rest.Part.TheVariants as parts
use Rattle.http_wire.specs.Chunks.{Body, Whole, behind}
use Rattle.http_wire.specs.Parts.{goes, Gives, GivesOf, GivesBehind}
use Rattle.http_wire.specs.Moves.{Moved, Moves, Brings}

moved-then : (limit : ℕ) (a b : Body) (n : Step) (rest : List ℕ) → a ≡ b → Moved limit b n rest → Moved limit a n rest
moved-then limit a b (steps.Stage s) rest e m = e ∙ m
moved-then limit a b (steps.Refused x) rest e m = e ∙ m
moved-then limit a b steps.Truncated rest e m = e ∙ m
moved-then limit a b steps.ReadFault rest e m = tt

pub moves-then : (limit : ℕ) (s t : Stage) (a b c : Option (List ℕ)) (n : Step) → Moves limit s a (steps.Stage t) b → Moves limit t b n c → Moves limit s a n c
moves-then limit s t None b c n p q = tt
moves-then limit s t (Some text) None c n p q = absurd p
moves-then limit s t (Some text) (Some rest) None n p q = absurd q
moves-then limit s t (Some text) (Some rest) (Some last) n p q = moved-then limit (goes limit s text) (goes limit t rest) n last p q

pub moves-stay : (limit : ℕ) (s : Stage) (a : Option (List ℕ)) → Moves limit s a (steps.Stage s) a
moves-stay limit s None = tt
moves-stay limit s (Some text) = refl

pub brings-then : (s t u : Stage) (a b c : Option (List ℕ)) → Brings s a t b → ((limit : ℕ) → Moves limit t b (steps.Stage u) c) → Brings s a u c
brings-then s t u a b c h m limit n after q = h limit n after (moves-then limit t u b c after n (m limit) q)

gives-so : (limit : ℕ) (s t : Stage) (text rest bytes : List ℕ) (p : Part) (new : Stage) (after : Option (List ℕ)) → goes limit s text ≡ goes limit t rest
    → Gives limit t rest p bytes new after → Gives limit s text p bytes new after
gives-so limit s t text rest bytes parts.More new after e g = (g.0, g.1, g.2, g.3, e ∙ g.4)
gives-so limit s t text rest bytes parts.Done new after e g = (g.0, g.1, g.2, e ∙ g.3)
gives-so limit s t text rest bytes (parts.Refused x) new after e g = (g.0, e ∙ g.1)
gives-so limit s t text rest bytes parts.Truncated new after e g = (g.0, e ∙ g.1)
gives-so limit s t text rest bytes parts.ReadFault new after e g = g

gives-then : (limit : ℕ) (s t : Stage) (a b c : Option (List ℕ)) (bytes : List ℕ) (p : Part) (new : Stage) → Moves limit s a (steps.Stage t) b → GivesOf limit t b p bytes new c → GivesOf limit s a p bytes new c
gives-then limit s t None b c bytes p new m g = tt
gives-then limit s t (Some text) None c bytes p new m g = absurd m
gives-then limit s t (Some text) (Some rest) c bytes p new m g = gives-so limit s t text rest bytes p new c m g

-- ---- what is told of what is left of a body

tells-part : (old new : Rest) (text bytes : List ℕ) (p : Part) (after : Option (List ℕ)) → new.limit ≡ old.limit → Gives old.limit old.stage text p bytes new.stage after → TellsPart old text p bytes new after
tells-part old new text bytes parts.More after e g = (g.0, g.1, g.2, g.3, g.4 ∙ ap (λ l. behind bytes (goes l new.stage g.0)) (sym e))
tells-part old new text bytes parts.Done after e g = g
tells-part old new text bytes (parts.Refused x) after e g = g
tells-part old new text bytes parts.Truncated after e g = g
tells-part old new text bytes parts.ReadFault after e g = g

part-of : (old new : Rest) (before after : Option (List ℕ)) (bytes : List ℕ) (p : Part) → new.limit ≡ old.limit → GivesOf old.limit old.stage before p bytes new.stage after → PartOf old before p bytes new after
part-of old new None after bytes p e g = tt
part-of old new (Some text) after bytes p e g = tells-part old new text bytes p after e g

pub part-then : (old new : Rest) (t : Stage) (a b c : Option (List ℕ)) (bytes bytes_now : List ℕ) (p : Part) → new.limit ≡ old.limit → Moves old.limit old.stage a (steps.Stage t) b
    → GivesBehind old.limit t b bytes p bytes_now new.stage c → PartBehind old a bytes p bytes_now new c
part-then old new t a b c bytes bytes_now p e m g = (g.0, g.1, part-of old new a c g.0 p e (gives-then old.limit old.stage t a b c g.0 p new.stage m g.2))

refused-of : (old : Rest) (e : WireFault) (a c : Option (List ℕ)) → Moves old.limit old.stage a (steps.Refused e) c → PartOf old a (parts.Refused e) [] old c
refused-of old e None c m = tt
refused-of old e (Some text) None m = absurd m
refused-of old e (Some text) (Some rest) m = (refl, m)

truncated-of : (old : Rest) (a c : Option (List ℕ)) → Moves old.limit old.stage a steps.Truncated c → PartOf old a parts.Truncated [] old c
truncated-of old None c m = tt
truncated-of old (Some text) None m = absurd m
truncated-of old (Some text) (Some rest) m = (refl, m)

fault-of : (old : Rest) (a c : Option (List ℕ)) → PartOf old a parts.ReadFault [] old c
fault-of old None c = tt
fault-of old (Some text) c = refl

pub part-refused : (old : Rest) (e : WireFault) (a c : Option (List ℕ)) (bytes : List ℕ) → Moves old.limit old.stage a (steps.Refused e) c → PartBehind old a bytes (parts.Refused e) bytes old c
part-refused old e a c bytes m = ([], sym (append-nil bytes), refused-of old e a c m)

pub part-truncated : (old : Rest) (a c : Option (List ℕ)) (bytes : List ℕ) → Moves old.limit old.stage a steps.Truncated c → PartBehind old a bytes parts.Truncated bytes old c
part-truncated old a c bytes m = ([], sym (append-nil bytes), truncated-of old a c m)

pub part-fault : (old : Rest) (a c : Option (List ℕ)) (bytes : List ℕ) → PartBehind old a bytes parts.ReadFault bytes old c
part-fault old a c bytes = ([], sym (append-nil bytes), fault-of old a c)

-- ---- a body, part by part

pub nothing-read : (r : Rest) (a : Option (List ℕ)) → ReadSoFar r a [] r a
nothing-read r None = tt
nothing-read r (Some text) = sym (behind-none (left_of r text))

pub read-more : (old r new : Rest) (a b c : Option (List ℕ)) (body body_now : List ℕ) → ReadSoFar old a body r b → PartBehind r b body parts.More body_now new c → ReadSoFar old a body_now new c
read-more old r new None b c body body_now s p = tt
read-more old r new (Some text) None c body body_now s p = absurd s
read-more old r new (Some text) (Some rest) c body body_now s p =
    rw p.2.1 (s ∙ ap (behind body) p.2.4 ∙ sym (behind-behind body p.0 (left_of new p.2.0)) ∙ ap (λ (l : List ℕ). behind l (left_of new p.2.0)) (sym p.1))

pub read-done : (old r new : Rest) (a b c : Option (List ℕ)) (body : List ℕ) (now : Vec ℕ Global) → ReadSoFar old a body r b → PartBehind r b body parts.Done now.items new c → BodyTells old a (read.Whole now) c
read-done old r new None b c body now s p = tt
read-done old r new (Some text) None c body now s p = absurd s
read-done old r new (Some text) (Some rest) c body now s p =
    (p.2.1, p.2.2, s ∙ ap (behind body) p.2.3 ∙ ap (λ (l : List ℕ). Whole l p.2.1) (ap (λ (l : List ℕ). body ++ l) (sym p.2.0) ∙ sym p.1))

pub read-refused : (old r new : Rest) (a b c : Option (List ℕ)) (body body_now : List ℕ) (e : WireFault) → ReadSoFar old a body r b → PartBehind r b body (parts.Refused e) body_now new c → BodyTells old a (read.Refused e) c
read-refused old r new None b c body body_now e s p = tt
read-refused old r new (Some text) None c body body_now e s p = absurd s
read-refused old r new (Some text) (Some rest) c body body_now e s p = s ∙ ap (behind body) p.2.1

pub read-truncated : (old r new : Rest) (a b c : Option (List ℕ)) (body body_now : List ℕ) → ReadSoFar old a body r b → PartBehind r b body parts.Truncated body_now new c → BodyTells old a read.Truncated c
read-truncated old r new None b c body body_now s p = tt
read-truncated old r new (Some text) None c body body_now s p = absurd s
read-truncated old r new (Some text) (Some rest) c body body_now s p = s ∙ ap (behind body) p.2.1

pub read-fault : (old : Rest) (a c : Option (List ℕ)) → BodyTells old a read.ReadFault c
read-fault old None c = tt
read-fault old (Some text) c = tt

pub read-no_memory : (old : Rest) (a c : Option (List ℕ)) → BodyTells old a read.Memory c
read-no_memory old None c = tt
read-no_memory old (Some text) c = tt
