-- A reply as it is written (RFC 9112, sections 4 to 6; RFC 9110, sections 10.2.1 and 15; RFC 6585, section 5).
use Rattle.std.specs.Prelude.{ℕ, Bool, true, false, List, [], ◌∷◌, ◌++◌, length, Option, Some, None, codes, decimal, if◌then◌else◌, ◌==◌, IsTrue, flat_map}
use Rattle.std.specs.List.{list_any}
use Rattle.http_wire.specs.declared.reply.Allow.{Allow}
use Rattle.http_wire.specs.declared.reply.Allow.TheVariants as allows
use Rattle.http_wire.specs.declared.reply.Reply.{Reply}
use Rattle.http_wire.specs.Fields.{Header}

-- the statuses that a reply may have, and their phrases
abbrev pub phrases : List (ℕ × List ℕ)
phrases =
    (200, codes "OK")
    ∷ (400, codes "Bad Request")
    ∷ (404, codes "Not Found")
    ∷ (405, codes "Method Not Allowed")
    ∷ (409, codes "Conflict")
    ∷ (410, codes "Gone")
    ∷ (413, codes "Content Too Large")
    ∷ (415, codes "Unsupported Media Type")
    ∷ (431, codes "Request Header Fields Too Large")
    ∷ (501, codes "Not Implemented")
    ∷ (503, codes "Service Unavailable")
    ∷ (507, codes "Insufficient Storage")
    ∷ []

-- the phrase of a status
abbrev pub phrase_in : ℕ → List (ℕ × List ℕ) → List ℕ
phrase_in s [] = []
phrase_in s (p ∷ ps) = if s == p.0 then p.1 else phrase_in s ps

-- a reply may have the status
abbrev pub HasPhrase : ℕ → Type 0
HasPhrase s = IsTrue (list_any (λ p. s == p.0) phrases)

-- the version, the status and its phrase
unfoldable pub status_line : ℕ → List ℕ
status_line s = codes "HTTP/1.1 " ++ (decimal s ++ (codes " " ++ (phrase_in s phrases ++ codes "\r\n")))

-- the name of a method
abbrev pub method_of : Allow → List ℕ
method_of allows.Get = codes "GET"
method_of allows.Post = codes "POST"

-- the snapshot that the reply is of
abbrev pub snapshot_fields : Option ℕ → List Header
snapshot_fields None = []
snapshot_fields (Some s) = (codes "x-osv-snapshot", decimal s) ∷ []

-- the method that the path has
abbrev pub allow_fields : Option Allow → List Header
allow_fields None = []
allow_fields (Some a) = (codes "allow", method_of a) ∷ []

-- whether the connection closes behind the reply
abbrev pub close_fields : Bool → List Header
close_fields false = []
close_fields true = (codes "connection", codes "close") ∷ []

-- the fields of a reply, in their order
unfoldable pub fields_of : Reply → List Header
fields_of r =
    (codes "content-type", codes "application/json")
    ∷ (codes "content-length", decimal (length r.body))
    ∷ (snapshot_fields r.snapshot ++ (allow_fields r.allow ++ close_fields r.close))

-- a field on its line
abbrev pub field_line : Header → List ℕ
field_line h = h.0 ++ (codes ": " ++ (h.1 ++ codes "\r\n"))

-- the head of a reply: its status line, its fields and an empty line
unfoldable pub head_of : Reply → List ℕ
head_of r = status_line r.status ++ (flat_map field_line (fields_of r) ++ codes "\r\n")

-- a reply as it is written
unfoldable pub spelled : Reply → List ℕ
spelled r = head_of r ++ r.body

-- the reply of a server that found no memory
abbrev pub no_memory : Reply
no_memory = record {
  body = codes "{\"code\":22,\"message\":\"memory\"}";
  snapshot = None;
  allow = None;
  status = 503;
  close = true;
}
