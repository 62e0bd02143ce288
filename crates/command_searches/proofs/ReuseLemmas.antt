-- What the nodes of an old certificate show is one answer.
use Rattle.std.proofs.Common.{ℕ, List, sym, ap, ◌∙◌}
use Rattle.model_rosters.specs.declared.instance.Instance.{Instance}
use Rattle.check_certificates.specs.declared.cert.Cert.{Cert}
use Rattle.check_reuse.specs.declared.nodes.Reused.{Reused}
use Rattle.check_reuse.proofs.OneAnswer.{one-answer}
use Rattle.check_reuse.specs.ReusedText.{reused_text}
use Rattle.command_searches.specs.Reuse.{Reusing, reused_status}
use Rattle.command_answers.proofs.OnceLemmas.{AreSame}

pub reused-once : (i : Instance) (c : Cert) (s t : ℕ) (a b : List ℕ) → Reusing i c s a → Reusing i c t b → AreSame s t a b
reused-once i c s t a b h k =
    let same = one-answer i c h.reused k.reused h.is k.is in
    (h.status_is ∙ ap (λ (r : Reused). reused_status r) same ∙ sym k.status_is, h.line ∙ ap (λ (r : Reused). reused_text r) same ∙ sym k.line)
