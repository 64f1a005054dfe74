use Rattle.std.proofs.Common.{◌≡◌, ◌++◌, ◌∷◌, [], List, length, arith, sym, ap, ◌∙◌, append_assoc, length-append}
use Rattle.std.specs.Vec.Iter.{into_iter_items}
use Rattle.std.proofs.lemmas.List.{append-nil, nil_from_length}
use Rattle.std.proofs.lemmas.Result.{err_from_is_err_and}
use Rattle.osv_prim.specs.declared.oid.CommitRow.{CommitRow}
use Rattle.osv_prim.specs.Graphs.{with_row, joined}
use Rattle.commit_graph.proofs.Extended.{is_extended, is_refused}
use Rattle.commit_graph.proofs.Faulty.{joined_push, given_sound, given_fault}
use Rattle.commit_graph.proofs.graph.Graph.of_rows.Goals as goal

pub returns-in_err-graph-2-clause-fault : goal.returns-in_err-graph-2-clause-fault
returns-in_err-graph-2-clause-fault g c =
    let p = err_from_is_err_and c.from_residual-in_err-graph-2.result c.from_residual-in_err-graph-2.ensures.1 in
    let split : c.loop-row.yielded ++ c.in-Some.row ∷ into_iter_items c.next.new.self ≡ c.args.rows =
    ap (λ (xs : List CommitRow). c.loop-row.yielded ++ xs) (sym c.in-Some.ensures.steps.0) ∙ c.loop-row.invariant.split in
    rw (p.1, p.2)
    (λ other. given_fault [] c.args.most c.args.rows c.loop-row.yielded c.in-Some.row (into_iter_items c.next.new.self) c.loop-row.index split c.loop-row.invariant.count
    c.loop-row.graph c.loop-row.invariant.so_far c.loop-row.invariant.sound c.in_err-graph-2.field-0.0 (c.in_err-graph-2.ensures.fault other))

pub returns-in_err-graph-2-clause-refused : goal.returns-in_err-graph-2-clause-refused
returns-in_err-graph-2-clause-refused g c =
    let p = err_from_is_err_and c.from_residual-in_err-graph-2.result c.from_residual-in_err-graph-2.ensures.1 in
    let split : c.loop-row.yielded ++ c.in-Some.row ∷ into_iter_items c.next.new.self ≡ c.args.rows =
    ap (λ (xs : List CommitRow). c.loop-row.yielded ++ xs) (sym c.in-Some.ensures.steps.0) ∙ c.loop-row.invariant.split in
    rw (p.1, p.2)
    (λ other. is_refused [] c.args.most c.args.rows c.in_err-graph-2.field-0.0
    (given_fault [] c.args.most c.args.rows c.loop-row.yielded c.in-Some.row (into_iter_items c.next.new.self) c.loop-row.index split c.loop-row.invariant.count
    c.loop-row.graph c.loop-row.invariant.so_far c.loop-row.invariant.sound c.in_err-graph-2.field-0.0 (c.in_err-graph-2.ensures.fault other)))

pub returns-clause-value : goal.returns-clause-value
returns-clause-value g c =
    let none : into_iter_items c.loop-row.row-iterator ≡ [] =
    nil_from_length (into_iter_items c.loop-row.row-iterator) (omega (arith, c.in-None.ensures.steps.0, c.loop-row.row-iterator.rest.ok.0)) in
    let all : c.loop-row.yielded ≡ c.args.rows =
    sym (append-nil c.loop-row.yielded) ∙ ap (λ (xs : List CommitRow). c.loop-row.yielded ++ xs) (sym none) ∙ c.loop-row.invariant.split in
    is_extended [] c.args.most c.args.rows c.in_ok-graph-3.graph (c.in_ok-graph-3.ensures ∙ c.loop-row.invariant.so_far ∙ ap (joined []) all)
    (λ index lt. c.loop-row.invariant.sound index (omega (arith, lt, c.loop-row.invariant.count, ap (λ (xs : List CommitRow). length xs) all)))

pub loop-row-preserved : goal.loop-row-preserved
loop-row-preserved g c =
    let split : c.loop-row.yielded ++ c.in-Some.row ∷ into_iter_items c.next.new.self ≡ c.args.rows =
    ap (λ (xs : List CommitRow). c.loop-row.yielded ++ xs) (sym c.in-Some.ensures.steps.0) ∙ c.loop-row.invariant.split in
    record {
      split = append_assoc c.loop-row.yielded (c.in-Some.row ∷ []) (into_iter_items c.next.new.self) ∙ split;
      count = omega (arith, c.loop-row.invariant.count, length-append c.loop-row.yielded (c.in-Some.row ∷ []));
      so_far =
          c.in_ok-graph-2.ensures.joined ∙ ap (λ (x : List CommitRow). with_row x c.in-Some.row) c.loop-row.invariant.so_far
          ∙ sym (joined_push [] c.loop-row.yielded c.in-Some.row);
      sound =
          given_sound [] c.args.most c.args.rows c.loop-row.yielded c.in-Some.row (into_iter_items c.next.new.self) c.loop-row.index split c.loop-row.invariant.count
          c.loop-row.graph c.loop-row.invariant.so_far c.loop-row.invariant.sound c.in_ok-graph-2.ensures.sound;
      steps = omega (arith, c.in_ok-graph-2.ensures.steps, c.loop-row.invariant.steps);
      records = c.in_ok-graph-2.ensures.records ∙ c.loop-row.invariant.records;
    }
