use Rattle.std.proofs.Common.{◌≡◌, ◌≤◌, ◌+◌, ◌-◌, List, ℕ, ◌++◌, length, take, sym, ap, ◌∙◌, arith}
use Rattle.std.proofs.lemmas.List.{with_items_is, length-drop, length-take}
use borrow.Rule.Slice.PartMut.{put_mid}
use Rattle.http_wire.proofs.WindowLemmas.{put-length, put-behind}
use Rattle.http_wire.proofs.taking.from_source.Goals as goal

pub returns-else-count-eq0-clause-took : goal.returns-else-count-eq0-clause-took
returns-else-count-eq0-clause-took g c =
    let old = c.args.part.now in
    let v = c.resize.new.self in
    let xs = c.deref_mut.result.now in
    let len = c.len-len.result in
    let n = c.in-Ok-read.count in
    let bound = c.in-Ok-read.ensures.bound in
    let into = c.read.new.into in
    let front : length old.items ≡ len = omega (arith, c.len-len.ensures, old.ok.0) in
    let size : length xs ≡ len + c.args.most = omega (arith, c.deref_mut.ensures.len, c.in-Ok.ensures.len) in
    let fits : length into ≡ length xs - len = omega (arith, c.read.auto.into, length-take {A = ℕ}, length-drop {A = ℕ}) in
    let ws = put_mid len (length xs - len) xs into in
    let written : length ws ≡ v.len = put-length xs into len (omega arith) fits ∙ c.deref_mut.ensures.len in (
      take n into,
      c.truncate.ensures.items ∙ ap (take (len + n)) (with_items_is v ws written)
          ∙ put-behind xs old.items _ into (length xs - len) len n c.args.most (c.deref_mut.ensures.value ∙ c.in-Ok.ensures.items) front bound.0,
      (sym bound.1, omega (arith, c.if-count-eq0.false), omega (arith, bound.0), omega (arith, bound.0, c.requires.few), c.in-Ok-read.ensures.bytes.0),
    )
