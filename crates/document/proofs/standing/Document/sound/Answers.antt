use Rattle.document.proofs.Soundness.{sound_book}
use Rattle.document.proofs.standing.Document.sound.Goals as goal

pub returns : goal.returns
returns c = sound_book c.args.self.now
