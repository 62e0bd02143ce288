use Rattle.page_labels.specs.Labels.{code_words}
use Rattle.page_views.proofs.RowLemmas.{words_more}
use Rattle.page_views.proofs.draw.words_of.Goals as goal

pub loop-place-preserved : goal.loop-place-preserved
loop-place-preserved c =
    words_more (code_words c.args.labels.now.codes) c.loop-place.place c.loop-place.words c.push.new.self c.loop-place.invariant (rw (c.in_ok-copied.ensures, c.code_words-text.ensures, c.as_slice.ensures) at c.in_ok-push.ensures.ok)
