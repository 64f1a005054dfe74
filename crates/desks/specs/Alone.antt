-- The caller alone with its book (our own).
use Rattle.std.specs.Prelude.{ℕ, Some, None, []}
use Rattle.settings.specs.declared.Settings.{Settings}
use Rattle.turn_lock.specs.declared.note.Last.{Last}
use Rattle.book_model.specs.State.{State, first_note}
use Rattle.book_model.specs.Desk.{Caller}

-- the caller 0 of a book on which nobody else acts
abbrev pub alone_with : State → ℕ → ℕ → ℕ → Last → Caller
alone_with book busy turns outs last = record { lock = None; settings = book.settings; front = book.history; alone = Some book.build; me = 0; busy = busy; turns = turns; outs = outs; last = last }

-- before its first call
abbrev pub new_caller : Settings → Caller
new_caller settings = record { lock = None; settings = settings; front = []; alone = Some None; me = 0; busy = 0; turns = 0; outs = 0; last = record { turned = 0; found = first_note; left = first_note } }
