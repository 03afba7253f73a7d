use mathlib.Core.Path.{refl}
use native.Mathlib.Omega.{arith}
use Rattle.archive.proofs.Writing.{all-writable, all-few, image-place, image-bytes, same-output}
use Rattle.archive.proofs.write.put_image.Goals as goal

pub put_records-requires-clause-writable : goal.put_records-requires-clause-writable
put_records-requires-clause-writable c = all-writable _ _ _ c.args.tree.now.sound

pub put_records-requires-clause-few : goal.put_records-requires-clause-few
put_records-requires-clause-few c = all-few _ _ _ c.args.tree.now.sound

pub returns-clause-answer : goal.returns-clause-answer
returns-clause-answer c = image-place _ _ _ c.args.tree.now.sound _ _ refl c.put_records.ensures

pub returns-clause-bytes : goal.returns-clause-bytes
returns-clause-bytes c =
    grind (arith, same-output _ _ _ c.args.tree.now.sound _ _ refl c.put_records.ensures, image-bytes _ _ _ c.args.tree.now.sound _ _ refl c.put_records.ensures)
