-- How large a request may be (our own).
use Rattle.std.specs.Prelude.{ℕ, List, bytes_eq, if◌then◌else◌, codes}
use Rattle.http_wire.specs.declared.room.Room.{Room}

-- how many bytes a body may have at this path
abbrev pub limit_at : Room → List ℕ → ℕ
limit_at room path = if bytes_eq path (codes "/x/repo") then room.stream else room.body
