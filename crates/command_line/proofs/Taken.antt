-- `clap` takes words exactly where no fault is in them.
use Rattle.std.proofs.Common.{◌≡◌, ◌⊎◌, List, [], ◌∷◌, Some, None, true, refl, sym, ap, ◌∙◌, subst, inl, inr}
use Rattle.clap.specs.Words.{App, Row, Text, IsAmong, fault_of, is_simple, is_simple_and_free, matches_of}
use Rattle.clap.specs.Kinds.{Kinds}
use Rattle.clap.specs.declared.error.kind.ErrorKind.{ErrorKind}
use Rattle.clap.specs.declared.error.kind.ErrorKind.TheVariants.{OutOfMemory}
use Rattle.command_line.specs.Grammar.{app, given, unless}
use Rattle.command_line.specs.declared.table.CommandName.{CommandName}
use Rattle.command_line.specs.declared.table.CommandName.TheVariants.{Ask, Check, Replay, Serve, Drill}

pub simple : (name : CommandName) → is_simple (app name) ≡ true
simple Ask = refl
simple Check = refl
simple Replay = refl
simple Serve = refl
simple Drill = refl

pub free : (name : CommandName) → is_simple_and_free (app name) ≡ true
free Ask = refl
free Check = refl
free Replay = refl
free Serve = refl
free Drill = refl

pub taken : (name : CommandName) (words : List Text) (a : App) (rows : List Row) → a ≡ app name → fault_of a words ≡ [] → rows ≡ matches_of a words → Some rows ≡ given name words
taken name words a rows same none found =
    ap Some (found ∙ ap (λ (x : App). matches_of x words) same)
    ∙ sym (ap (λ (kinds : Kinds). unless kinds (matches_of (app name) words)) (sym (ap (λ (x : App). fault_of x words) same) ∙ none))

some_fault : (k : ErrorKind) (kinds : Kinds) (rows : List Row) → (k ≡ OutOfMemory → ⊥) → (k ≡ OutOfMemory) ⊎ IsAmong k kinds → None ≡ unless kinds rows
some_fault k [] rows other (inl e) = absurd (other e)
some_fault k [] rows other (inr e) = absurd e
some_fault k (x ∷ xs) rows other h = refl

pub refused : (name : CommandName) (words : List Text) (a : App) (k : ErrorKind) → a ≡ app name → (k ≡ OutOfMemory → ⊥) → (k ≡ OutOfMemory) ⊎ IsAmong k (fault_of a words) → None ≡ given name words
refused name words a k same other h =
    some_fault k (fault_of (app name) words) (matches_of (app name) words) other
    (subst (λ (x : App). (k ≡ OutOfMemory) ⊎ IsAmong k (fault_of x words)) same h)
