-- A long option's text is made one equation of its length and each of its characters, and what it asks is computed.
use Rattle.std.proofs.Common.{◌≡◌, arith}
use Rattle.std.proofs.lemmas.Slice.Eq.{text_from_reads}
use Rattle.command_line.specs.Argument.{kind_of, option_or_file, help, version}
use Rattle.command_line.proofs.argument.classify.Goals as goal

pub returns-in-45-3 : goal.returns-in-45-3
unfolding kind_of option_or_file
returns-in-45-3 c =
    let text : c.args.text.now ≡ help =
    text_from_reads _ _ (omega arith) (omega arith, (omega arith, (omega arith, (omega arith, (omega arith, (omega arith, tt)))))) in
    rw (c.if-not-options.false, text)

pub returns-in-45-4 : goal.returns-in-45-4
unfolding kind_of option_or_file
returns-in-45-4 c =
    let text : c.args.text.now ≡ version =
    text_from_reads _ _ (omega arith)
    (omega arith, (omega arith, (omega arith, (omega arith, (omega arith, (omega arith, (omega arith, (omega arith, (omega arith, tt))))))))) in
    rw (c.if-not-options.false, text)
