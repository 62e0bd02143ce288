-- The lines of a text that says a certificate are those of the certificate.
use Rattle.std.proofs.Common.{◌≡◌, ℕ, ℤ, zero, suc, ◌+◌, ◌*◌, ◌/◌, ◌<◌, ◌≤◌, Bool, true, false, cond, ltb, List, [], ◌∷◌, ◌++◌, length, map, take, drop, Option, Some, None, Result, Ok, Err, refl, sym, ap, ◌∙◌, arith, subst, append_assoc, append-nil, length-append}
use Rattle.std.specs.Prelude.{codes, is_some}
use Rattle.std.proofs.lemmas.Bool.{ltb-true}
use Rattle.std.proofs.Math.Nat.{mul-div_cancel}
use Rattle.text_lines.specs.Lines.{TextLine, text_items}
use Rattle.text_lines.proofs.ListLemmas.{at_least}
use Rattle.model_rosters.specs.declared.instance.Instance.{Instance}
use Rattle.model_rosters.specs.declared.instance.Mult.{Mult}
use Rattle.model_rosters.specs.declared.instance.Shift.{Shift}
use Rattle.model_rosters.specs.SoundInstance.{IsSoundInstance}
use Rattle.check_certificates.specs.declared.cert.Cert.{Cert}
use Rattle.check_certificates.specs.declared.cert.Node.{Node}
use Rattle.check_certificates.specs.declared.cert.Node.TheVariants as of
use Rattle.text_proof_pieces.specs.declared.fault.PieceFault.{PieceFault}
use Rattle.text_proof_pieces.specs.declared.fault.PieceFault.TheVariants.{BadByte, BadHeader, CutShort, Trailing}
use Rattle.text_proof_pieces.specs.declared.fault.ProofFault.{ProofFault}
use Rattle.text_proof_pieces.specs.declared.node.NodeLine.{NodeLine}
use Rattle.text_proof_pieces.specs.declared.node.NodeLine.TheVariants.{Split, Priced, Pinned, Bare}
use Rattle.text_proof_pieces.specs.declared.stage.Stage.TheVariants.{TooLong, Start}
use Rattle.text_proof_pieces.specs.CertOf.{no_cert, collected, proof_of}
use Rattle.text_proof_pieces.specs.Items.{Items}
use Rattle.text_proof_pieces.specs.NodeLines.{node_at}
use Rattle.text_proof_pieces.specs.PieceList.{Given, Place, Spot, Reader, too_long, start, costs, bounds, shifts, nodes, block, ended, over, after, begin, at_node, in_block, at_line, at_end, at_bad, pieces_from, pieces_left, pieces_of, spot_of, wants, is_end, no_place, split_read, leaf_read, node_read, node_of, cut_count, after_bound}
use Rattle.text_proof_pieces.specs.PriceLines.{due_byte, price_line, is_mult, mult_line}
use Rattle.text_proof_pieces.specs.ShiftLines.{is_header, amount_line, is_shift, shift_at}
use Rattle.text_proof_pieces.specs.Told.{cost, bound, shift, node}
use Rattle.text_proof_pieces.proofs.PiecesKept.{not_whole, said_ok}
use Rattle.text_certificates.specs.SaidLines.{HaveWords}
use Rattle.text_certificates.specs.Written.{header_words, amount_words, shift_line, price_words, price_lines, mult_words, block_lines, node_lines, tree_lines, end_words, cert_lines}
use Rattle.text_certificates.proofs.SaidWords.{line_words, header_said, end_said, amounts_said, shift_said, node_said, OneLine, price_said, OneMult, mult_said}

abbrev Lines : Type 0
Lines = List (List (List ℕ))

-- one line more
have_more : (line : TextLine) (items : Items) (ws : List (List ℕ)) (wss : Lines) → line.words ≡ ws → HaveWords items wss → HaveWords (Ok line ∷ items) (ws ∷ wss)
have_more line items ws wss e h = (e, h)

-- the nodes that are told, and their lines up to the end
record SaidNodes (i : Instance) (c cert : Cert) (items : Items) : Type 0 where
  told : List Node
  made : cert ≡ record c { nodes = c.nodes ++ told }
  lines : HaveWords items (tree_lines i told ++ end_words ∷ [])

-- the rest of a price block, and what follows
record SaidBlock (i : Instance) (h : NodeLine) (cs : List ℤ) (ms : List Mult) (c cert : Cert) (items : Items) : Type 0 where
  count : ℕ
  more : List ℤ
  mults : List Mult
  told : List Node
  long : length more ≡ count * i.grammar.periods
  made : cert ≡ record c { nodes = c.nodes ++ node_of h (cs ++ more) (ms ++ mults) ∷ told }
  lines : HaveWords items (price_lines i (length cs) count more ++ (map mult_words mults ++ (tree_lines i told ++ end_words ∷ [])))
  whole : length i.cells ≤ length cs → count ≡ 0

-- shifts and nodes that are told, and their lines
record SaidRoster (i : Instance) (c cert : Cert) (items : Items) : Type 0 where
  shifts : List Shift
  told : List Node
  made : cert ≡ record c { shifts = c.shifts ++ shifts; nodes = c.nodes ++ told }
  lines : HaveWords items (map (shift_line i) shifts ++ (tree_lines i told ++ end_words ∷ []))

record SaidBound (i : Instance) (c cert : Cert) (items : Items) : Type 0 where
  said : Option ℕ
  shifts : List Shift
  told : List Node
  made : cert ≡ record c { bound = said; shifts = c.shifts ++ shifts; nodes = c.nodes ++ told }
  lines : HaveWords items (amount_words (codes "bound") said ∷ (map (shift_line i) shifts ++ (tree_lines i told ++ end_words ∷ [])))

record SaidCost (i : Instance) (c cert : Cert) (items : Items) : Type 0 where
  paid : Option ℕ
  said : Option ℕ
  shifts : List Shift
  told : List Node
  made : cert ≡ record { cost = paid; bound = said; shifts = c.shifts ++ shifts; nodes = c.nodes ++ told }
  lines : HaveWords items (amount_words (codes "cost") paid ∷ amount_words (codes "bound") said ∷ (map (shift_line i) shifts ++ (tree_lines i told ++ end_words ∷ [])))

-- the whole text
record SaidText (i : Instance) (c cert : Cert) (items : Items) : Type 0 where
  paid : Option ℕ
  said : Option ℕ
  shifts : List Shift
  told : List Node
  made : cert ≡ record { cost = paid; bound = said; shifts = c.shifts ++ shifts; nodes = c.nodes ++ told }
  lines : HaveWords items (header_words i.groups ∷ amount_words (codes "cost") paid ∷ amount_words (codes "bound") said ∷ (map (shift_line i) shifts ++ (tree_lines i told ++ end_words ∷ [])))

-- what is known of the lines that are left, by what they are read for
abbrev Said : Instance → Spot → Cert → Cert → Items → Type 0
Said i too_long c cert items = ⊥
Said i start c cert items = SaidText i c cert items
Said i costs c cert items = SaidCost i c cert items
Said i (bounds paid) c cert items = SaidBound i c cert items
Said i (shifts n) c cert items = SaidRoster i c cert items
Said i nodes c cert items = SaidNodes i c cert items
Said i (block h cs ms) c cert items = SaidBlock i h cs ms c cert items
Said i ended c cert items = (items ≡ []) × (cert ≡ c)
Said i over c cert items = ⊥

abbrev Go : Type 0
Go = Spot → Place → Given

-- what is known of the lines behind a line
abbrev Known : Instance → Cert → Items → Go → Type 0
Known i cert items go = (t : Spot) (q : Place) (d : Cert) → collected d (go t q) ≡ Ok cert → Said i t d cert items

abbrev end_lines : Lines
end_lines = end_words ∷ []

none_left : (zs : List ℤ) → length zs ≡ 0 → zs ≡ []
none_left [] e = refl
none_left (z ∷ zs) e = absurd (omega (arith, e))

first_part : (n : ℕ) (xs ys : List ℤ) → length xs ≡ n → (take n (xs ++ ys) ≡ xs) × (drop n (xs ++ ys) ≡ ys)
first_part zero [] ys e = (refl, refl)
first_part zero (x ∷ xs) ys e = absurd (omega (arith, e))
first_part (suc n) [] ys e = absurd (omega (arith, e))
first_part (suc n) (x ∷ xs) ys e =
    let r = first_part n xs ys (omega (arith, e)) in (ap (λ (zs : List ℤ). x ∷ zs) r.0, r.1)

-- ---- nodes

-- the lines of a node's prices, and those of what follows
block_joined : (i : Instance) (d count : ℕ) (more : List ℤ) (mults : List Mult) (rest : Lines) → 1 ≤ i.grammar.periods → length more ≡ count * i.grammar.periods
    → (block_lines i (record { d = d; cell = more; mult = mults }) ++ rest) ++ end_lines ≡ price_lines i 0 count more ++ (map mult_words mults ++ (rest ++ end_lines))
block_joined i d count more mults rest some long =
    let least : 0 < i.grammar.periods = omega (arith, some) in
    let lines : length more / i.grammar.periods ≡ count = ap (λ (m : ℕ). m / i.grammar.periods) long ∙ mul-div_cancel count least in
    ap (λ (n : ℕ). ((price_lines i 0 n more ++ map mult_words mults) ++ rest) ++ end_lines) lines
    ∙ append_assoc (price_lines i 0 count more ++ map mult_words mults) rest end_lines
    ∙ append_assoc (price_lines i 0 count more) (map mult_words mults) (rest ++ end_lines)

-- a node without prices
plain_node : (i : Instance) (c cert : Cert) (line : TextLine) (items : Items) (x : Node) → line.words ∷ [] ≡ node_lines i x → SaidNodes i (record c { nodes = c.nodes ++ x ∷ [] }) cert items
    → SaidNodes i c cert (Ok line ∷ items)
plain_node i c cert line items x e r = record {
  told = x ∷ r.told;
  made = r.made ∙ ap (λ (ns : List Node). record c { nodes = ns }) (append_assoc c.nodes (x ∷ []) r.told);
  lines = subst (λ (ls : Lines). HaveWords (Ok line ∷ items) ((ls ++ tree_lines i r.told) ++ end_lines)) e (refl, r.lines);
}

-- a node with prices
priced_node : (i : Instance) (c cert : Cert) (line : TextLine) (items : Items) (h : NodeLine) (d : ℕ) → 1 ≤ i.grammar.periods → line.words ≡ line_words h
    → ((cs : List ℤ) (ms : List Mult) → node_lines i (node_of h cs ms) ≡ line_words h ∷ block_lines i (record { d = d; cell = cs; mult = ms }))
    → SaidBlock i h [] [] c cert items → SaidNodes i c cert (Ok line ∷ items)
priced_node i c cert line items h d some e lines_of r =
    let x : Node = node_of h r.more r.mults in
    let rest : Lines = tree_lines i r.told in
    let whole : HaveWords (Ok line ∷ items) (line_words h ∷ (price_lines i 0 r.count r.more ++ (map mult_words r.mults ++ (rest ++ end_lines)))) = (e, r.lines) in
    let joined : (node_lines i x ++ rest) ++ end_lines ≡ line_words h ∷ (price_lines i 0 r.count r.more ++ (map mult_words r.mults ++ (rest ++ end_lines))) =
    ap (λ (ls : Lines). (ls ++ rest) ++ end_lines) (lines_of r.more r.mults) ∙ ap (λ (ls : Lines). line_words h ∷ ls) (block_joined i d r.count r.more r.mults rest some r.long) in
    record {
      told = x ∷ r.told;
      made = r.made;
      lines = subst (HaveWords (Ok line ∷ items)) (sym joined) whole;
    }

begin_said : (i : Instance) (c cert : Cert) (line : TextLine) (items : Items) (h : NodeLine) (p : Place) (go : Go) → 1 ≤ i.grammar.periods → Known i cert items go → line.words ≡ line_words h
    → collected c (begin h p go) ≡ Ok cert → SaidNodes i c cert (Ok line ∷ items)
begin_said i c cert line items (Split a b None) p go some known e q =
    plain_node i c cert line items (of.Split a b None) (ap (λ (ws : List (List ℕ)). ws ∷ []) e) (known nodes (split_read p) (record c { nodes = c.nodes ++ of.Split a b None ∷ [] }) q)
begin_said i c cert line items (Split a b (Some d)) p go some known e q =
    priced_node i c cert line items (Split a b (Some d)) d some e (λ cs ms. refl) (known (block (Split a b (Some d)) [] []) p c q)
begin_said i c cert line items (Priced d) p go some known e q = priced_node i c cert line items (Priced d) d some e (λ cs ms. refl) (known (block (Priced d) [] []) p c q)
begin_said i c cert line items Pinned p go some known e q =
    plain_node i c cert line items of.Pinned (ap (λ (ws : List (List ℕ)). ws ∷ []) e) (known nodes (leaf_read p) (record c { nodes = c.nodes ++ of.Pinned ∷ [] }) q)
begin_said i c cert line items Bare p go some known e q =
    plain_node i c cert line items of.Bare (ap (λ (ws : List (List ℕ)). ws ∷ []) e) (known nodes (leaf_read p) (record c { nodes = c.nodes ++ of.Bare ∷ [] }) q)

at_node_said : (i : Instance) (c cert : Cert) (line : TextLine) (items : Items) (p : Place) (go : Go) → 1 ≤ i.grammar.periods → Known i cert items go
    → collected c (at_node i p line go) ≡ Ok cert → SaidNodes i c cert (Ok line ∷ items)
at_node_said i c cert line items p go some known e = by (wants p) (node_at line.number i.groups p.nodes line.words) refl (is_end line.words) refl e
  where
    last : is_end line.words ≡ true → (items ≡ []) × (cert ≡ c) → SaidNodes i c cert (Ok line ∷ items)
    last t r = record {
      told = [];
      made = r.1 ∙ ap (λ (ns : List Node). record c { nodes = ns }) (sym (append-nil c.nodes));
      lines = (end_said line.words t, subst (λ (is : Items). HaveWords is []) (sym r.0) tt);
    }

    by : (w : Bool) (r : Result NodeLine PieceFault) → node_at line.number i.groups p.nodes line.words ≡ r → (z : Bool) → is_end line.words ≡ z
        → collected c (cond w (after r (λ h. begin h p go)) (cond z (go ended p) (Err (Trailing line.number) ∷ []))) ≡ Ok cert → SaidNodes i c cert (Ok line ∷ items)
    by true (Err f) at z t q = absurd cc
    by true (Ok h) at z t q = begin_said i c cert line items h p go some known (node_said line.number i.groups p.nodes line.words h at) q
    by false r at true t q = last t (known ended p c q)
    by false r at false t q = absurd cc

-- ---- price blocks

block_price : (i : Instance) (h : NodeLine) (cs ds : List ℤ) (ms : List Mult) (c cert : Cert) (line : TextLine) (items : Items) → length cs < length i.cells → OneLine i cs ds line.words
    → SaidBlock i h ds ms c cert items → SaidBlock i h cs ms c cert (Ok line ∷ items)
block_price i h cs ds ms c cert line items lt one r =
    let n : ℕ = i.grammar.periods in
    let zs : List ℤ = one.more ++ r.more in
    let parts = first_part n one.more r.more one.long in
    let place : length ds ≡ length cs + n = ap (λ (es : List ℤ). length es) one.made ∙ length-append cs one.more ∙ ap (λ (m : ℕ). length cs + m) one.long in
    let rest : Lines = map mult_words r.mults ++ (tree_lines i r.told ++ end_lines) in
    let prices : ds ++ r.more ≡ cs ++ zs = ap (λ (es : List ℤ). es ++ r.more) one.made ∙ append_assoc cs one.more r.more in
    let behind : HaveWords items (price_lines i (length cs + n) r.count r.more ++ rest) = rw place at r.lines in
    let first : line.words ≡ price_words (due_byte i (length cs)) (take n zs) = one.words ∙ ap (price_words (due_byte i (length cs))) (sym parts.0) in
    record {
      count = suc r.count;
      more = zs;
      mults = r.mults;
      told = r.told;
      long = length-append one.more r.more ∙ (omega (arith, one.long, r.long));
      made = r.made ∙ ap (λ (es : List ℤ). record c { nodes = c.nodes ++ node_of h es (ms ++ r.mults) ∷ r.told }) prices;
      lines = (first, subst (λ (es : List ℤ). HaveWords items (price_lines i (length cs + n) r.count es ++ rest)) (sym parts.1) behind);
      whole = λ all. absurd (omega (arith, lt, all));
    }

block_mult : (i : Instance) (h : NodeLine) (cs : List ℤ) (ms ns : List Mult) (c cert : Cert) (line : TextLine) (items : Items) → length i.cells ≤ length cs → OneMult ms ns line.words
    → SaidBlock i h cs ns c cert items → SaidBlock i h cs ms c cert (Ok line ∷ items)
block_mult i h cs ms ns c cert line items all one r =
    let rest : Lines = tree_lines i r.told ++ end_lines in
    let none : r.count ≡ 0 = r.whole all in
    let empty : r.more ≡ [] = none_left r.more (r.long ∙ ap (λ (m : ℕ). m * i.grammar.periods) none ∙ omega arith) in
    let behind : HaveWords items (map mult_words r.mults ++ rest) =
    subst (λ (m : ℕ). HaveWords items (price_lines i (length cs) m r.more ++ (map mult_words r.mults ++ rest))) none r.lines in
    let mults : ns ++ r.mults ≡ ms ++ (one.last ∷ r.mults) = ap (λ (xs : List Mult). xs ++ r.mults) one.made ∙ append_assoc ms (one.last ∷ []) r.mults in
    record {
      count = 0;
      more = [];
      mults = one.last ∷ r.mults;
      told = r.told;
      long = omega arith;
      made = r.made ∙ ap (λ (es : List ℤ). record c { nodes = c.nodes ++ node_of h (cs ++ es) (ns ++ r.mults) ∷ r.told }) empty
          ∙ ap (λ (xs : List Mult). record c { nodes = c.nodes ++ node_of h (cs ++ []) xs ∷ r.told }) mults;
      lines = (one.words, behind);
      whole = λ h. refl;
    }

block_done : (i : Instance) (h : NodeLine) (cs : List ℤ) (ms : List Mult) (c cert : Cert) (items : Items) → SaidNodes i (record c { nodes = c.nodes ++ node_of h cs ms ∷ [] }) cert items
    → SaidBlock i h cs ms c cert items
block_done i h cs ms c cert items r = record {
  count = 0;
  more = [];
  mults = [];
  told = r.told;
  long = omega arith;
  made = r.made ∙ ap (λ (ns : List Node). record c { nodes = ns }) (append_assoc c.nodes (node_of h cs ms ∷ []) r.told)
      ∙ ap (λ (es : List ℤ). record c { nodes = c.nodes ++ node_of h es ms ∷ r.told }) (sym (append-nil cs))
      ∙ ap (λ (xs : List Mult). record c { nodes = c.nodes ++ node_of h (cs ++ []) xs ∷ r.told }) (sym (append-nil ms));
  lines = r.lines;
  whole = λ h. refl;
}

block_said : (i : Instance) (h : NodeLine) (cs : List ℤ) (ms : List Mult) (p : Place) (c cert : Cert) (line : TextLine) (items : Items) (go : Go) → 1 ≤ i.grammar.periods → Known i cert items go
    → collected c (in_block i h cs ms p line go) ≡ Ok cert → SaidBlock i h cs ms c cert (Ok line ∷ items)
block_said i h cs ms p c cert line items go some known e =
    by (ltb (length cs) (length i.cells)) refl (price_line line.number i cs line.words) refl (is_mult line.words) refl (mult_line line.number (cut_count i p) ms line.words) refl e
  where
    by : (less : Bool) → ltb (length cs) (length i.cells) ≡ less → (r : Result (List ℤ) PieceFault) → price_line line.number i cs line.words ≡ r → (form : Bool) → is_mult line.words ≡ form
        → (m : Result (List Mult) PieceFault) → mult_line line.number (cut_count i p) ms line.words ≡ m
        → collected c (cond less (after r (λ ds. go (block h ds ms) p)) (cond form (after m (λ ns. go (block h cs ns) p)) (Ok (node (node_of h cs ms)) ∷ at_node i (node_read h p) line go))) ≡ Ok cert
        → SaidBlock i h cs ms c cert (Ok line ∷ items)
    by true less (Err f) r form t m g q = absurd cc
    by true less (Ok ds) r form t m g q =
        block_price i h cs ds ms c cert line items (ltb-true (length cs) (length i.cells) less) (price_said line.number i cs ds line.words r) (known (block h ds ms) p c q)
    by false less r at true t (Err f) g q = absurd cc
    by false less r at true t (Ok ns) g q =
        block_mult i h cs ms ns c cert line items (at_least (length cs) (length i.cells) less) (mult_said line.number (cut_count i p) ms ns line.words t g) (known (block h cs ns) p c q)
    by false less r at false t m g q =
        block_done i h cs ms c cert (Ok line ∷ items) (at_node_said i (record c { nodes = c.nodes ++ node_of h cs ms ∷ [] }) cert line items (node_read h p) go some known q)

-- ---- the roster, and the whole text

nodes_alone : (i : Instance) (c cert : Cert) (items : Items) → SaidNodes i c cert items → SaidRoster i c cert items
nodes_alone i c cert items r = record {
  shifts = [];
  told = r.told;
  made = r.made ∙ ap (λ (ss : List Shift). record c { shifts = ss; nodes = c.nodes ++ r.told }) (sym (append-nil c.shifts));
  lines = r.lines;
}

shifts_said : (i : Instance) (n : ℕ) (p : Place) (c cert : Cert) (line : TextLine) (items : Items) (go : Go) → 1 ≤ i.grammar.periods → Known i cert items go
    → collected c (at_line i (shifts n) p line go) ≡ Ok cert → SaidRoster i c cert (Ok line ∷ items)
shifts_said i n p c cert line items go some known e = by (is_shift i.groups line.words) refl (shift_at line.number i n line.words) refl e
  where
    one : (s : Shift) → line.words ≡ shift_line i s → SaidRoster i (record c { shifts = c.shifts ++ s ∷ [] }) cert items → SaidRoster i c cert (Ok line ∷ items)
    one s w r = record {
      shifts = s ∷ r.shifts;
      told = r.told;
      made = r.made ∙ ap (λ (ss : List Shift). record c { shifts = ss; nodes = c.nodes ++ r.told }) (append_assoc c.shifts (s ∷ []) r.shifts);
      lines = (w, r.lines);
    }

    by : (form : Bool) → is_shift i.groups line.words ≡ form → (r : Result Shift PieceFault) → shift_at line.number i n line.words ≡ r
        → collected c (cond form (after r (λ s. Ok (shift s) ∷ go (shifts (n + 1)) p)) (at_node i p line go)) ≡ Ok cert → SaidRoster i c cert (Ok line ∷ items)
    by true f (Err x) at q = absurd cc
    by true f (Ok s) at q = one s (shift_said line.number i n line.words s f at) (known (shifts (n + 1)) p (record c { shifts = c.shifts ++ s ∷ [] }) q)
    by false f r at q = nodes_alone i c cert (Ok line ∷ items) (at_node_said i c cert line items p go some known q)

bounds_said : (i : Instance) (paid : Bool) (p : Place) (c cert : Cert) (line : TextLine) (items : Items) (go : Go) → Known i cert items go
    → collected c (at_line i (bounds paid) p line go) ≡ Ok cert → SaidBound i c cert (Ok line ∷ items)
bounds_said i paid p c cert line items go known e = by paid (amount_line line.number (codes "bound") line.words) refl e
  where
    one : (x : Option ℕ) → line.words ≡ amount_words (codes "bound") x → SaidRoster i (record c { bound = x }) cert items → SaidBound i c cert (Ok line ∷ items)
    one x w r = record { said = x; shifts = r.shifts; told = r.told; made = r.made; lines = (w, r.lines) }

    by : (b : Bool) (r : Result (Option ℕ) PieceFault) → amount_line line.number (codes "bound") line.words ≡ r
        → collected c (after r (λ x. Ok (bound x) ∷ go (after_bound b) p)) ≡ Ok cert → SaidBound i c cert (Ok line ∷ items)
    by b (Err f) at q = absurd cc
    by true (Ok x) at q = one x (amounts_said line.number (codes "bound") line.words x at) (known (shifts 0) p (record c { bound = x }) q)
    by false (Ok x) at q = one x (amounts_said line.number (codes "bound") line.words x at) (nodes_alone i (record c { bound = x }) cert items (known nodes p (record c { bound = x }) q))

costs_said : (i : Instance) (p : Place) (c cert : Cert) (line : TextLine) (items : Items) (go : Go) → Known i cert items go
    → collected c (at_line i costs p line go) ≡ Ok cert → SaidCost i c cert (Ok line ∷ items)
costs_said i p c cert line items go known e = by (amount_line line.number (codes "cost") line.words) refl e
  where
    one : (x : Option ℕ) → line.words ≡ amount_words (codes "cost") x → SaidBound i (record c { cost = x }) cert items → SaidCost i c cert (Ok line ∷ items)
    one x w r = record { paid = x; said = r.said; shifts = r.shifts; told = r.told; made = r.made; lines = (w, r.lines) }

    by : (r : Result (Option ℕ) PieceFault) → amount_line line.number (codes "cost") line.words ≡ r
        → collected c (after r (λ x. Ok (cost x) ∷ go (bounds (is_some x)) p)) ≡ Ok cert → SaidCost i c cert (Ok line ∷ items)
    by (Err f) at q = absurd cc
    by (Ok x) at q = one x (amounts_said line.number (codes "cost") line.words x at) (known (bounds (is_some x)) p (record c { cost = x }) q)

start_said : (i : Instance) (p : Place) (c cert : Cert) (line : TextLine) (items : Items) (go : Go) → Known i cert items go
    → collected c (at_line i start p line go) ≡ Ok cert → SaidText i c cert (Ok line ∷ items)
start_said i p c cert line items go known e = by (is_header i.groups line.words) refl e
  where
    one : line.words ≡ header_words i.groups → SaidCost i c cert items → SaidText i c cert (Ok line ∷ items)
    one w r = record { paid = r.paid; said = r.said; shifts = r.shifts; told = r.told; made = r.made; lines = (w, r.lines) }

    by : (t : Bool) → is_header i.groups line.words ≡ t → collected c (cond t (go costs no_place) (Err (BadHeader line.number) ∷ [])) ≡ Ok cert → SaidText i c cert (Ok line ∷ items)
    by true at q = one (header_said i.groups line.words at) (known costs no_place c q)
    by false at q = absurd cc

line_said : (i : Instance) (t : Spot) (p : Place) (c cert : Cert) (line : TextLine) (items : Items) (go : Go) → 1 ≤ i.grammar.periods → Known i cert items go
    → collected c (at_line i t p line go) ≡ Ok cert → Said i t c cert (Ok line ∷ items)
line_said i too_long p c cert line items go some known e = absurd cc
line_said i start p c cert line items go some known e = start_said i p c cert line items go known e
line_said i costs p c cert line items go some known e = costs_said i p c cert line items go known e
line_said i (bounds paid) p c cert line items go some known e = bounds_said i paid p c cert line items go known e
line_said i (shifts n) p c cert line items go some known e = shifts_said i n p c cert line items go some known e
line_said i nodes p c cert line items go some known e = at_node_said i c cert line items p go some known e
line_said i (block h cs ms) p c cert line items go some known e = block_said i h cs ms p c cert line items go some known e
line_said i ended p c cert line items go some known e = absurd cc
line_said i over p c cert line items go some known e = absurd cc

abbrev ok_cert : Cert → Result Cert ProofFault
ok_cert x = Ok x

end_of_lines : (i : Instance) (t : Spot) (c cert : Cert) → collected c (at_end i t) ≡ Ok cert → Said i t c cert []
end_of_lines i too_long c cert e = absurd cc
end_of_lines i start c cert e = absurd cc
end_of_lines i costs c cert e = absurd cc
end_of_lines i (bounds paid) c cert e = absurd cc
end_of_lines i (shifts n) c cert e = absurd cc
end_of_lines i nodes c cert e = absurd cc
end_of_lines i (block h cs ms) c cert e = absurd (not_whole (ltb (length cs) (length i.cells)) (node_of h cs ms) CutShort c cert e)
end_of_lines i ended c cert e = (refl, sym (said_ok c cert e))
end_of_lines i over c cert e = absurd cc

no_bad_line : (i : Instance) (t : Spot) (c cert : Cert) (k : ℕ) → collected c (at_bad i t k) ≡ Ok cert → ⊥
no_bad_line i too_long c cert k e = cc
no_bad_line i start c cert k e = cc
no_bad_line i costs c cert k e = cc
no_bad_line i (bounds paid) c cert k e = cc
no_bad_line i (shifts n) c cert k e = cc
no_bad_line i nodes c cert k e = cc
no_bad_line i (block h cs ms) c cert k e = not_whole (ltb (length cs) (length i.cells)) (node_of h cs ms) (BadByte k) c cert e
no_bad_line i ended c cert k e = cc
no_bad_line i over c cert k e = cc

lines_said : (i : Instance) (t : Spot) (p : Place) (c cert : Cert) (items : Items) → 1 ≤ i.grammar.periods → collected c (pieces_from i t p items) ≡ Ok cert → Said i t c cert items
lines_said i t p c cert [] some e = end_of_lines i t c cert e
lines_said i t p c cert (Err b ∷ items) some e = absurd (no_bad_line i t c cert b.line e)
lines_said i t p c cert (Ok line ∷ items) some e =
    line_said i t p c cert line items (λ u q. pieces_from i u q items) some (λ u q d h. lines_said i u q d cert items some h) e

said_text : (i : Instance) (text : List ℕ) (cert : Cert) → 1 ≤ i.grammar.periods → proof_of i text ≡ Ok cert → (length text ≤ 1073741824) × SaidText i no_cert cert (text_items text)
unfolding proof_of pieces_of pieces_left
said_text i text cert some e = by (ltb 1073741824 (length text)) refl e
  where
    reader : Bool → Reader
    reader t = cond t (record { left = []; stage = TooLong; nodes_before = 0 }) (record { left = text_items text; stage = Start; nodes_before = 0 })

    from : Reader → Given
    from r = pieces_from i (spot_of r.stage) (record { nodes = r.nodes_before; halves = [] }) r.left

    by : (t : Bool) → ltb 1073741824 (length text) ≡ t → collected no_cert (from (reader t)) ≡ Ok cert → (length text ≤ 1073741824) × SaidText i no_cert cert (text_items text)
    by true t q = absurd cc
    by false t q = (at_least 1073741824 (length text) t, lines_said i start no_place no_cert cert (text_items text) some q)

-- the lines of words of a text that says a certificate are those of the certificate
pub text_said : (i : Instance) (text : List ℕ) (cert : Cert) → IsSoundInstance i → proof_of i text ≡ Ok cert → (length text ≤ 1073741824) × HaveWords (text_items text) (cert_lines i cert)
text_said i text cert s e =
    let some : 1 ≤ i.grammar.periods = omega (arith, s.grammar.some_period) in
    let r = said_text i text cert some e in
    (r.0, subst (λ (c : Cert). HaveWords (text_items text) (cert_lines i c)) (sym r.1.made) r.1.lines)
