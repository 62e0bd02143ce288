use Rattle.std.proofs.lemmas.Result.{on_ok_weaker}
use Rattle.std.specs.Prelude.{codes}
use Rattle.std.specs.Fmt.{decimal}
use Rattle.std.proofs.Common.{map}
use Rattle.text_rules.specs.Written.{symbol_word, window_words}
use Rattle.text_rules.proofs.WrittenLemmas.{rule_joined}
use Rattle.text_rules.proofs.write.append_rule.Goals as goal
use Rattle.text_lines.specs.Names.{name_of}

pub returns : goal.returns
returns c =
    let r = c.args.rule.now in
    let codes_now = c.args.codes.now in
    let names_now = c.args.names.now in
    on_ok_weaker c.push.result (λ e. rule_joined c.args.out.now _ _ _ _ _ _ _ _ c.push.new.self
    (codes "rule") (name_of names_now r.left) (decimal r.cost) (codes "=")
    (map (symbol_word codes_now names_now) r.right) (window_words (codes "len") r.span) (window_words (codes "begin") r.first) (window_words (codes "end") r.last)
    c.in_ok-put.ensures.ok c.in_ok-name.ensures c.in_ok-field.ensures c.in_ok-word.ensures (rw c.as_slice.ensures at c.in_ok-symbols.ensures) c.in_ok-window.ensures c.in_ok-window-2.ensures c.in_ok-window-3.ensures e) c.push.ensures.ok
