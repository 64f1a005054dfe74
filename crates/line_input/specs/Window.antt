-- What a clause reads of a window (our own). No public clause cites this module but through a reader of lines.
use Rattle.std.specs.Prelude.{ℕ, ◌+◌, ◌≤◌, List, slice_range, vec_len}
use Rattle.line_input.specs.declared.window.Window.{Window}

abbrev pub items : Window → List ℕ
items w = slice_range w.bytes.items w.start w.end

-- one piece has room behind the bytes
abbrev pub has_room : Window → Type 0
has_room w = w.end + 262144 ≤ vec_len w.bytes
