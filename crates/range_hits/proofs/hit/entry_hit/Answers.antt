use Rattle.std.proofs.Common.{◌≡◌, ℕ, List, Bool, ◌&&◌, ◌||◌, Option, Some, false, sym, ap, subst, ◌∙◌}
use Rattle.std.specs.List.{AllZip, list_any}
use Rattle.std.specs.Option.{option_map_or}
use Rattle.std.specs.Str.{bytes_eq}
use Rattle.osv_prim.specs.Packages.{matches}
use Rattle.osv_prim.specs.declared.package.PackageKey.{PackageKey}
use Rattle.osv_record.specs.Advisories.{Entry}
use Rattle.evaluate.specs.Hits.{affects_version, range_contains}
use Rattle.range_hits.specs.Forms.{IsFormIn, with_package}
use Rattle.range_hits.proofs.Parting.{zip-own}
use Rattle.range_hits.proofs.hit.entry_hit.Goals as goal

pub returns-else-contains : goal.returns-else-contains
returns-else-contains c = λ forms read.
    let key = c.in-Some.package in
    let entry : Entry = c.args.entry.now in
    let v = c.args.version.now in
    let asked = c.args.asked.now in
    let of_key : entry.«package» ≡ Some key = ap (λ (a : Entry). a.«package») (sym c.entry.view_is) ∙ c.in-Some.is in
    let own = zip-own key entry.ranges c.args.forms.now (subst (λ (o : Option PackageKey). AllZip IsFormIn (with_package o entry.ranges) c.args.forms.now) of_key forms) in
    let unlisted =
    ap (λ (a : Entry). list_any (bytes_eq v) a.versions) (sym c.entry.view_is) ∙ ap (λ (t : List ℕ). list_any (bytes_eq t) c.entry.inside.versions) (sym c.as_bytes.ensures.value) ∙ sym c.contains.ensures ∙ c.if-contains.false
    in
    let matched = sym c.matches.ensures ∙ c.if-matches.true in
    c.any_contains.ensures key.ecosystem v entry.ranges own read
    ∙ sym (ap (λ (b : Bool). b || list_any (range_contains key.ecosystem v) entry.ranges) unlisted)
    ∙ sym (ap (λ (b : Bool). b && affects_version key.ecosystem (Some v) entry) matched)
    ∙ sym (ap (λ (o : Option PackageKey). option_map_or (λ key. matches key asked && affects_version key.ecosystem (Some v) entry) o false) of_key)
