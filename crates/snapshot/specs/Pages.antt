-- Pages of hits (our own).
use Rattle.std.specs.Prelude.{ℕ, Bool, true, List, length, map, take, filter, Option, Some, None, nat_lt}
use Rattle.std.specs.Ordering.{nat_cmp, is_lt}
use Rattle.std.specs.Cmp.Lexicographic.{slice_cmp}
use Rattle.std.specs.Arc.{arc_value}
use Rattle.osv_prim.specs.declared.subject.Subject.{Subject}
use Rattle.osv_record.specs.Advisories.{Advisory}
use Rattle.evaluate.specs.Hits.{hits}
use Rattle.history.specs.declared.past.Past.{Past}
use Rattle.history.specs.Prefixes.{advisories, graphs}
use Rattle.impact_job.specs.Tables.{seen}
use Rattle.snapshot.specs.declared.page.Page as kept
use Rattle.snapshot.specs.declared.page.Found.{Found}

-- its id is above this one, where one is given
abbrev pub is_above : Option (List ℕ) → Advisory → Bool
is_above None r = true
is_above (Some after) r = is_lt (slice_cmp nat_cmp after r.id)

-- the hits of imports whose ids are above this one, ascending by id
abbrev pub hits_above : List Past → Subject → Option (List ℕ) → List Advisory
hits_above p subject after = filter (is_above after) (hits (advisories p) (graphs p) subject)

-- a page, as contracts see it: the hits that were found, and whether there are more
pub record Page : Type 0 where
  pub found : List Advisory
  pub more : Bool

abbrev pub page_seen : kept.Page → Page
page_seen page = record { found = seen page.found.items; more = page.more }

-- the same of a page that borrows its hits
abbrev pub found_seen : Found → Page
found_seen found = record { found = map (λ a. arc_value a.now) found.hits.items; more = found.more }

-- the first so many of these hits
abbrev pub cut : ℕ → List Advisory → Page
cut size hits = record { found = take size hits; more = nat_lt size (length hits) }

-- the first so many hits whose ids are above this one
abbrev pub page : List Past → Subject → Option (List ℕ) → ℕ → Page
page p subject after size = cut size (hits_above p subject after)
