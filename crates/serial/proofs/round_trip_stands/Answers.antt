use Rattle.serial.proofs.Anchors.{round_trip_anchored}
use Rattle.serial.proofs.Back.{composed_alike}
use Rattle.serial.proofs.Unique.{one_document}
use Rattle.serial.proofs.round_trip_stands.Goals as goal

pub returns : goal.returns
returns c = record { back = round_trip_anchored; alike = composed_alike; one = λ es g h a b. one_document a b }
