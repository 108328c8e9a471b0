-- How large the rooms are.
use Rattle.std.specs.Prelude.{◌≡◌, vec_len}
use Rattle.composer.specs.State.{Lengths}
use Rattle.room.specs.declared.loading.LoadRoom.{LoadRoom}
use Rattle.room.specs.declared.dumping.DumpRoom.{DumpRoom}

-- the lengths of a room's tables
abbrev pub lengths_in : LoadRoom → Lengths
lengths_in r = record { nodes = vec_len r.nodes; links = vec_len r.links; text = vec_len r.text; anchors = vec_len r.anchors; waiting = vec_len r.waiting }

-- each table is as long as its limit, so that a load is refused for want of space only past the limits
pub record FitsEveryLoad (r : LoadRoom) : Type 0 where
  pub full : lengths_in r ≡ record { nodes = 4096; links = 16384; text = 65536; anchors = 4096; waiting = 16384 }

-- an entry for each node, and one for each step: 16384 links, the ends of 4096 nodes, and the root
pub record FitsEveryDump (r : DumpRoom) : Type 0 where
  pub counting : vec_len r.counting ≡ 4096
  pub steps : vec_len r.steps ≡ 20481
