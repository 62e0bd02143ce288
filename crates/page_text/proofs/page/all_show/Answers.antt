use Rattle.page_text.specs.Pages.{shows}
use Rattle.page_parts.proofs.ElementsLemmas.{more_places}
use Rattle.page_text.proofs.page.all_show.Goals as goal

pub loop-place-preserved : goal.loop-place-preserved
loop-place-preserved c = more_places (shows) c.loop-place.place c.args.out.now c.loop-place.out c.shows.new.out c.loop-place.invariant c.in_ok-shows.ensures
