-- What a refusal of `semver` says.
use Rattle.std.proofs.Common.{◌≡◌, ◌⊎◌, None, Result, Err, inl, inr, ap}
use Rattle.osv_prim.specs.declared.read_version.ReadVersion.{ReadVersion}
use Rattle.osv_prim.specs.declared.read_version.ReadVersion.TheVariants as why
use Rattle.semver.specs.Parse.{Parts, memory_error}
use Rattle.semver.specs.declared.error.Error.{Error}
use Rattle.order_semver.specs.Reading.{IsFault, key_of}

pub refused : (e : Error) (f : ReadVersion) (r : Result Parts Error) → IsFault e f → (e ≡ memory_error) ⊎ (r ≡ Err e) → f ≡ why.NotAVersion → key_of r ≡ None
refused e why.Memory r h s is = absurd cc
refused e why.NotAVersion r h (inl m) is = absurd (h m)
refused e why.NotAVersion r h (inr p) is = ap key_of p
