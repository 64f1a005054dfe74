-- What a piece's kind says of its advisory and of its repository.
use Rattle.std.proofs.Common.{◌≡◌, Bool, true, false, cond, List, ◌++◌, refl}
use Rattle.history.specs.declared.past.Past.{Past}
use Rattle.history.specs.declared.piece_kind.PieceKind.TheVariants.{Fresh, Extend, Carry}
use Rattle.history.specs.Prefixes.{graph}
use Rattle.history.specs.Lookups.{record_of, has_import, has_grow}
use Rattle.history.specs.Pieces.{GitRange, repo_of, kind_of}
use Rattle.history.proofs.Lookups.{record_of-stays, graph-stays}

carry_step : (a b : Bool) → cond a Fresh (cond b Extend Carry) ≡ Carry → (a ≡ false) × (b ≡ false)
carry_step true b e = absurd cc
carry_step false true e = absurd cc
carry_step false false e = (refl, refl)

extend_step : (a b : Bool) → cond a Fresh (cond b Extend Carry) ≡ Extend → a ≡ false
extend_step true b e = absurd cc
extend_step false b e = refl

pub carried : (b came : List Past) (x : GitRange) → kind_of came x ≡ Carry → (record_of (b ++ came) x.advisory.id ≡ record_of b x.advisory.id) × (graph (b ++ came) (repo_of x) ≡ graph b (repo_of x))
carried b came x e =
    let none = carry_step (has_import came x.advisory.id) (has_grow came (repo_of x)) e in
    (record_of-stays b came x.advisory.id none.0, graph-stays b came (repo_of x) none.1)

pub extended : (b came : List Past) (x : GitRange) → kind_of came x ≡ Extend → record_of (b ++ came) x.advisory.id ≡ record_of b x.advisory.id
extended b came x e = record_of-stays b came x.advisory.id (extend_step (has_import came x.advisory.id) (has_grow came (repo_of x)) e)
