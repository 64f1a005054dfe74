use Rattle.std.proofs.Common.{Bool, ◌&&◌, ◌||◌, eqb, length, sym, ap, subst, ◌∙◌}
use Rattle.std.specs.Str.{bytes_eq}
use Rattle.package_index.specs.Numbers.{number_of}
use Rattle.package_index.specs.Noted.{noted_at, AreGiven}
use Rattle.package_index.proofs.Numbering.{number-within}
use Rattle.package_index.proofs.Noting.{Entries, noted-kept, noted-push, given-more}
use Rattle.package_index.proofs.growing.add.Goals as goal

pub returns-clause-sound : goal.returns-clause-sound
returns-clause-sound c =
    let names = c.number_or_add.new.self in
    let ecosystems = c.number_or_add-2.new.self in
    subst (λ (es : Entries). AreGiven (length names) (length ecosystems) es) (sym c.in_ok-push.ensures.items)
    (given-more c.args.growing.now.entries.items _ _ (length names) (length ecosystems) c.in_ok-name.name c.in_ok-ecosystem.ecosystem c.args.index c.requires c.in_ok-name.ensures.longer
    c.in_ok-ecosystem.ensures.longer (number-within names c.args.name.now _ c.in_ok-name.ensures.number) (number-within ecosystems c.args.ecosystem.now _ c.in_ok-ecosystem.ensures.number))

pub returns-clause-noted : goal.returns-clause-noted
returns-clause-noted c e t i =
    let names = c.number_or_add.new.self in
    let ecosystems = c.number_or_add-2.new.self in
    let before = c.args.growing.now in
    ap (λ (es : Entries). noted_at es (number_of names t) (number_of ecosystems e) i) c.in_ok-push.ensures.items
    ∙ noted-push before.entries.items names ecosystems c.args.name.now c.args.ecosystem.now c.in_ok-name.name c.in_ok-ecosystem.ecosystem c.args.index c.in_ok-name.ensures.number
    c.in_ok-ecosystem.ensures.number e t i
    ∙ ap (λ (b : Bool). b || ((bytes_eq c.args.name.now t && bytes_eq e c.args.ecosystem.now) && eqb c.args.index i))
    (noted-kept before.entries.items (length before.names) (length before.ecosystems) c.requires i (number_of before.names t) (number_of names t)
    (number_of before.ecosystems e) (number_of ecosystems e) (c.in_ok-name.ensures.kept t) (c.in_ok-ecosystem.ensures.kept e))
