use Rattle.std.proofs.Common.{◌≡◌, ◌≤◌, ◌+◌, ◌-◌, List, ℕ, ◌++◌, length, take, sym, ap, ◌∙◌, arith, slice_range}
use Rattle.std.proofs.lemmas.Result.{err_from_is_err_and}
use Rattle.std.proofs.lemmas.List.{with_items_is, length-drop, length-take}
use borrow.Rule.Slice.PartMut.{put_mid}
use Rattle.line_input.proofs.Held.{grown, kept, put-length}
use Rattle.line_input.proofs.window.Window.read_from.Goals as goal

pub returns-in_err-count-clause-err : goal.returns-in_err-count-clause-err
returns-in_err-count-clause-err g c =
    let w = c.args.self.now in
    let xs = c.deref_mut.result.now in
    let value = c.deref_mut.ensures.value in
    let within : w.end ≤ length xs = omega (arith, ap length value) in
    let p = err_from_is_err_and c.from_residual.result c.from_residual.ensures.1 in
    let ws = put_mid w.end (length xs - w.end) xs c.read.new.into in
    let len : length ws ≡ w.bytes.len = put-length xs c.read.new.into w.end within (omega (arith, c.read.auto.into, length-take {A = ℕ}, length-drop {A = ℕ})) ∙ c.deref_mut.ensures.len in
    rw p.1 (ap (λ (l : List ℕ). slice_range l w.start w.end) (with_items_is w.bytes ws len) ∙ kept xs c.read.new.into w.start w.end _ w.ordered within ∙ ap (λ (l : List ℕ). slice_range l w.start w.end) value, c.in_err-count.ensures.bytes)

pub returns-clause-ok : goal.returns-clause-ok
returns-clause-ok g c =
    let w = c.args.self.now in
    let xs = c.deref_mut.result.now in
    let value = c.deref_mut.ensures.value in
    let within : w.end ≤ length xs = omega (arith, ap length value) in
    let n = c.in_ok-count.count in
    let bound = c.in_ok-count.ensures.bound in
    let into = c.read.new.into in
    let ws = put_mid w.end (length xs - w.end) xs c.read.new.into in
    let len : length ws ≡ w.bytes.len = put-length xs c.read.new.into w.end within (omega (arith, c.read.auto.into, length-take {A = ℕ}, length-drop {A = ℕ})) ∙ c.deref_mut.ensures.len in
    (take n into, sym bound.1, ap (λ (l : List ℕ). slice_range l w.start (w.end + n)) (with_items_is w.bytes ws len) ∙ grown xs into w.start w.end _ n w.ordered within bound.0 ∙ ap (λ (l : List ℕ). slice_range l w.start w.end ++ take n into) value, c.in_ok-count.ensures.bytes.0)
