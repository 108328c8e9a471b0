use Rattle.serial.proofs.Determined.{walk_same}
use Rattle.serial.proofs.Exists.{walk_exists}
use Rattle.serial.proofs.Reaches.{walk_tells, met_once}
use Rattle.serial.proofs.Counts.{walk_length_by_paths}
use Rattle.serial.proofs.walks_stand.Goals as goal

pub returns : goal.returns
returns c = record {
  has_walk = walk_exists;
  one_walk = λ g d d' ts ts' seen seen' w w'. walk_same w w';
  meets_all = λ g d ts seen sound w. (walk_tells sound w, met_once w);
  walk_length = λ g d ts seen sound w test tells. walk_length_by_paths sound w test tells;
}
