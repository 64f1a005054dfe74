use Rattle.std.proofs.Common.{◌≡◌, ◌<◌, true, length, map, take, All}
use Rattle.std.specs.List.{list_all}
use Rattle.osv_prim.specs.Graphs.{has, id_at}
use Rattle.commit_graph.proofs.graph.Graph.find_all.Given as goal

abbrev pub invariant-loop-oid : goal.invariant-loop-oid
invariant-loop-oid l =
    record {
      known : list_all (has l.self) (take l.oid-index l.oids) ≡ true;
      named : map (id_at l.self) l.numbers.items ≡ take l.oid-index l.oids;
      below : All (λ n. n < length l.self) l.numbers.items;
    }
