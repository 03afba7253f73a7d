use mathlib.Core.Path.{sym, ◌∙◌}
use native.Mathlib.Omega.{arith}
use Rattle.tokenizer.proofs.Basics.{of_true}
use Rattle.archive.proofs.Archived.{law-length, law-read_back, law-one_image, unsound-answer, unsound-bytes, full-answer, full-bytes, written-answer, written-bytes}
use Rattle.archive.proofs.write_archive.Goals as goal

pub returns-in_default-clause-answer : goal.returns-in_default-clause-answer
returns-in_default-clause-answer c = unsound-answer c.args.tree _ c.in_default.ensures

pub returns-in_default-clause-bytes : goal.returns-in_default-clause-bytes
returns-in_default-clause-bytes c = unsound-bytes c.args.tree _ c.in_default.ensures

pub returns-then-out-put_image-clause-answer : goal.returns-then-out-put_image-clause-answer
returns-then-out-put_image-clause-answer c = full-answer c.args.tree _ c.in-Some.ensures.0 _ c.in-Some.ensures.1 _ c.put_image.ensures.answer c.if-out-put_image.true

pub returns-then-out-put_image-clause-bytes : goal.returns-then-out-put_image-clause-bytes
returns-then-out-put_image-clause-bytes c = full-bytes c.args.tree _ c.in-Some.ensures.0 _ c.in-Some.ensures.1 _ c.put_image.ensures.answer c.if-out-put_image.true

pub returns-clause-answer : goal.returns-clause-answer
returns-clause-answer c = written-answer c.args.tree _ c.in-Some.ensures.0 _ c.in-Some.ensures.1 _ c.put_image.ensures.answer c.if-out-put_image.false _ c.put_image-2.ensures.answer

pub returns-clause-bytes : goal.returns-clause-bytes
returns-clause-bytes c = written-bytes c.args.tree _ c.in-Some.ensures.0 _ c.in-Some.ensures.1 _ c.put_image.ensures.answer c.if-out-put_image.false _ c.put_image-2.ensures.bytes

pub returns-clause-size : goal.returns-clause-size
returns-clause-size c = law-length c.args.tree (of_true _ c.in-Some.ensures.0) _ c.in-Some.ensures.1 c.args.out.now _ _ c.put_image-2.ensures.answer (omega (arith, c.put_image-2.ensures.answer ∙ sym c.put_image.ensures.answer, c.if-out-put_image.false)) c.put_image-2.ensures.bytes

pub returns-clause-read_back : goal.returns-clause-read_back
returns-clause-read_back c = law-read_back c.args.tree (of_true _ c.in-Some.ensures.0) _ c.in-Some.ensures.1 c.args.out.now _ _ c.put_image-2.ensures.answer (omega (arith, c.put_image-2.ensures.answer ∙ sym c.put_image.ensures.answer, c.if-out-put_image.false)) c.put_image-2.ensures.bytes

pub returns-clause-one_image : goal.returns-clause-one_image
returns-clause-one_image c = law-one_image c.args.tree (of_true _ c.in-Some.ensures.0) _ c.in-Some.ensures.1 c.args.out.now _ _ c.put_image-2.ensures.answer (omega (arith, c.put_image-2.ensures.answer ∙ sym c.put_image.ensures.answer, c.if-out-put_image.false)) c.put_image-2.ensures.bytes
