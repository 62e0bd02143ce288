-- What a text tells up to its end: the cost, the bound, sound shifts, and the nodes of a sound tree.
use Rattle.std.proofs.Common.{◌≡◌, ℕ, ℤ, ◌+◌, ◌<◌, ◌≤◌, Bool, true, false, cond, ltb, List, [], ◌∷◌, ◌++◌, length, Option, Some, None, Result, Ok, Err, refl, sym, ap, ◌∙◌, arith, subst, append_assoc, append-nil}
use Rattle.std.specs.Prelude.{IfSome, is_some, codes}
use Rattle.std.proofs.lemmas.Bool.{ltb-true}
use Rattle.model_rosters.specs.declared.instance.Instance.{Instance}
use Rattle.model_rosters.specs.declared.instance.Mult.{Mult}
use Rattle.model_rosters.specs.declared.instance.Prices.{Prices}
use Rattle.model_rosters.specs.declared.instance.Shift.{Shift}
use Rattle.model_rosters.specs.Folds.{Each}
use Rattle.model_rosters.specs.SoundInstance.{IsSoundInstance}
use Rattle.check_certificates.specs.declared.cert.Cert.{Cert}
use Rattle.check_certificates.specs.declared.cert.Node.{Node}
use Rattle.check_certificates.specs.declared.cert.Node.TheVariants as of
use Rattle.check_certificates.specs.Nodes.{priced, pinned, bare}
use Rattle.check_certificates.specs.Sound.{most_cost, IsSoundShift, IsSoundCert, NoneIsZero}
use Rattle.text_lines.specs.Lines.{TextLine, text_items}
use Rattle.text_proof_pieces.specs.declared.fault.PieceFault.{PieceFault}
use Rattle.text_proof_pieces.specs.declared.fault.PieceFault.TheVariants.{BadByte, BadHeader, CutShort, Trailing}
use Rattle.text_proof_pieces.specs.declared.fault.ProofFault.{ProofFault}
use Rattle.text_proof_pieces.specs.declared.node.NodeLine.{NodeLine}
use Rattle.text_proof_pieces.specs.declared.node.NodeLine.TheVariants.{Split, Priced, Pinned, Bare}
use Rattle.text_proof_pieces.specs.declared.stage.Stage.TheVariants.{TooLong, Start}
use Rattle.text_proof_pieces.specs.CertOf.{no_cert, collected, node_pieces, shift_pieces, cert_pieces, proof_of}
use Rattle.text_proof_pieces.specs.Items.{Items}
use Rattle.text_proof_pieces.specs.NodeLines.{node_at}
use Rattle.text_proof_pieces.specs.PriceLines.{price_line, is_mult, mult_line}
use Rattle.text_proof_pieces.specs.ShiftLines.{is_header, amount_line, is_shift, shift_at}
use Rattle.text_proof_pieces.specs.PieceList.{Given, Place, no_place, wants, leaf_read, split_read, node_read, cut_count, node_of, Spot, too_long, start, costs, bounds, shifts, nodes, block, ended, over, after, begin, is_end, at_node, in_block, at_line, at_end, at_bad, after_bound, spot_of, Reader, pieces_from, pieces_left, pieces_of}
use Rattle.text_proof_pieces.specs.Told.{cost, bound, shift, node, done}
use Rattle.text_proof_pieces.specs.ToldSound.{SoundNode}
use Rattle.text_proof_pieces.proofs.BlockKept.{Block, block_none, block_price, block_mult, block_fits}
use Rattle.text_proof_pieces.proofs.FieldsKept.{IsHead, node_is, shift_is, amount_line_within}
use Rattle.text_proof_pieces.proofs.FineItems.{AreFine, IsFine, text_fine}
use Rattle.text_lines.proofs.ListLemmas.{at_least}
use Rattle.text_proof_pieces.proofs.TreeKept.{Wanted, Fills, leaf_fills, split_fills, whole_proof}

-- the nodes that are told where the tree is read so far
pub record TellsNodes (i : Instance) (p : Place) (c : Cert) (given : Given) (cert : Cert) : Type 0 where
  pub told : List Node
  pub list : given ≡ node_pieces told
  pub made : cert ≡ record c { nodes = c.nodes ++ told }
  pub few : p.nodes + length told ≤ 20001
  pub listed : Each NoneIsZero told
  pub fills : Fills i p told

-- the shifts and the nodes that are told
pub record TellsRoster (i : Instance) (c : Cert) (given : Given) (cert : Cert) : Type 0 where
  pub shifts : List Shift
  pub told : List Node
  pub list : given ≡ shift_pieces shifts (node_pieces told)
  pub made : cert ≡ record c { shifts = c.shifts ++ shifts; nodes = c.nodes ++ told }
  pub sound : Each (IsSoundShift i) shifts
  pub few : length told ≤ 20001
  pub listed : Each NoneIsZero told
  pub fills : Fills i no_place told

pub record TellsBound (i : Instance) (paid : Bool) (c : Cert) (given : Given) (cert : Cert) : Type 0 where
  pub said : Option ℕ
  pub rest : Given
  pub list : given ≡ Ok (bound said) ∷ rest
  pub roster : TellsRoster i (record c { bound = said }) rest cert
  pub within : IfSome said (λ n. n ≤ most_cost)
  pub few : length roster.shifts ≤ 64
  pub none : paid ≡ false → roster.shifts ≡ []

pub record TellsCost (i : Instance) (c : Cert) (given : Given) (cert : Cert) : Type 0 where
  pub said : Option ℕ
  pub rest : Given
  pub list : given ≡ Ok (cost said) ∷ rest
  pub within : IfSome said (λ n. n ≤ most_cost)
  pub bounds : TellsBound i (is_some said) (record c { cost = said }) rest cert

-- what is told from each spot on
abbrev pub Tells : Instance → Spot → Place → Cert → Given → Cert → Type 0
Tells i too_long p c given cert = Unit {0}
Tells i start p c given cert = TellsCost i c given cert
Tells i costs p c given cert = p ≡ no_place → TellsCost i c given cert
Tells i (bounds paid) p c given cert = p ≡ no_place → TellsBound i paid c given cert
Tells i (shifts n) p c given cert = p ≡ no_place → n ≤ 64 → (r : TellsRoster i c given cert) × (n + length r.shifts ≤ 64)
Tells i nodes p c given cert = p.nodes ≤ 20001 → TellsNodes i p c given cert
Tells i (block h cs ms) p c given cert = wants p ≡ true → p.nodes < 20001 → IsHead i h → Block i (cut_count i p) cs ms → TellsNodes i p c given cert
Tells i ended p c given cert = (given ≡ Ok done ∷ []) × (cert ≡ c)
Tells i over p c given cert = Unit {0}

abbrev ok_cert : Cert → Result Cert ProofFault
ok_cert x = Ok x

pub said_ok : (x y : Cert) → ok_cert x ≡ ok_cert y → x ≡ y
said_ok x y e = cc

-- one more node, which is due
one_node : (i : Instance) (p q : Place) (c cert : Cert) (n : Node) (rest : Given) → wants p ≡ true → q.nodes ≡ p.nodes + 1 → NoneIsZero n → ((ns : List Node) → Fills i q ns → Wanted i p.halves (n ∷ ns))
    → TellsNodes i q (record c { nodes = c.nodes ++ n ∷ [] }) rest cert → TellsNodes i p c (Ok (node n) ∷ rest) cert
one_node i p q c cert n rest w e some grow t = record {
  told = n ∷ t.told;
  list = ap (λ (g : Given). Ok (node n) ∷ g) t.list;
  made = t.made ∙ ap (λ (ns : List Node). record c { nodes = ns }) (append_assoc c.nodes (n ∷ []) t.told);
  few = omega (arith, t.few);
  listed = (some, t.listed);
  fills = rw w (grow t.told t.fills);
}

-- a node with a whole price block, or a node without one, is sound
pub head_sound : (i : Instance) (p : Place) (h : NodeLine) (cs : List ℤ) (ms : List Mult) → IsHead i h → Block i (cut_count i p) cs ms → length i.cells ≤ length cs → SoundNode i (length p.halves) (node_of h cs ms)
head_sound i p (Split a b None) cs ms s k all = record { listed = tt; paths = λ cuts e. (s.0, s.1, tt) }
head_sound i p (Split a b (Some d)) cs ms s k all = record { listed = k.listed; paths = λ cuts e. (s.0, s.1, block_fits i cuts (cut_count i p) d cs ms e k all s.2) }
head_sound i p (Priced d) cs ms s k all = record { listed = k.listed; paths = λ cuts e. block_fits i cuts (cut_count i p) d cs ms e k all s }
head_sound i p Pinned cs ms s k all = record { listed = tt; paths = λ cuts e. tt }
head_sound i p Bare cs ms s k all = record { listed = tt; paths = λ cuts e. tt }

-- the node of a line with its whole price block
head_told : (i : Instance) (p : Place) (c cert : Cert) (h : NodeLine) (cs : List ℤ) (ms : List Mult) (rest : Given) → wants p ≡ true → SoundNode i (length p.halves) (node_of h cs ms)
    → TellsNodes i (node_read h p) (record c { nodes = c.nodes ++ node_of h cs ms ∷ [] }) rest cert → TellsNodes i p c (Ok (node (node_of h cs ms)) ∷ rest) cert
head_told i p c cert (Split a b None) cs ms rest w s t = one_node i p (split_read p) c cert (of.Split a b None) rest w refl tt (λ ns f. split_fills i p a b None ns s f) t
head_told i p c cert (Split a b (Some d)) cs ms rest w s t =
    let own : Option Prices = Some (record { d = d; cell = cs; mult = ms }) in
    one_node i p (split_read p) c cert (of.Split a b own) rest w refl s.listed (λ ns f. split_fills i p a b own ns s f) t
head_told i p c cert (Priced d) cs ms rest w s t =
    let own : Prices = record { d = d; cell = cs; mult = ms } in
    one_node i p (leaf_read p) c cert (of.Priced own) rest w refl s.listed (λ ns f. leaf_fills i p (of.Priced own) (priced own) ns refl (λ cuts e. (s.paths cuts e, tt)) f) t
head_told i p c cert Pinned cs ms rest w s t = one_node i p (leaf_read p) c cert of.Pinned rest w refl tt (λ ns f. leaf_fills i p of.Pinned pinned ns refl (λ cuts e. (tt, tt)) f) t
head_told i p c cert Bare cs ms rest w s t = one_node i p (leaf_read p) c cert of.Bare rest w refl tt (λ ns f. leaf_fills i p of.Bare bare ns refl (λ cuts e. (tt, tt)) f) t

-- what the lines behind a line tell is known
abbrev Go : Type 0
Go = Spot → Place → Given

abbrev Known : Instance → Cert → Go → Type 0
Known i cert go = (t : Spot) (q : Place) (d : Cert) → collected d (go t q) ≡ Ok cert → Tells i t q d (go t q) cert

ends : (i : Instance) (p : Place) (c cert : Cert) (given : Given) → wants p ≡ false → p.nodes ≤ 20001 → (given ≡ Ok done ∷ []) × (cert ≡ c) → TellsNodes i p c given cert
ends i p c cert given w few t = record {
  told = [];
  list = t.0;
  made = t.1 ∙ ap (λ (ns : List Node). record c { nodes = ns }) (sym (append-nil c.nodes));
  few = omega arith;
  listed = tt;
  fills = rw w refl;
}

begin_tells : (i : Instance) (p : Place) (c cert : Cert) (h : NodeLine) (go : Go) → Known i cert go → wants p ≡ true → p.nodes < 20001 → IsHead i h
    → collected c (begin h p go) ≡ Ok cert → TellsNodes i p c (begin h p go) cert
begin_tells i p c cert (Split a b None) go known w few s e =
    let nd : Node = of.Split a b None in
    one_node i p (split_read p) c cert nd (go nodes (split_read p)) w refl tt (λ ns f. split_fills i p a b None ns (record { listed = tt; paths = λ cuts q. (s.0, s.1, tt) }) f)
    (known nodes (split_read p) (record c { nodes = c.nodes ++ nd ∷ [] }) e (omega arith))
begin_tells i p c cert (Split a b (Some d)) go known w few s e = known (block (Split a b (Some d)) [] []) p c e w few s (block_none i (cut_count i p))
begin_tells i p c cert (Priced d) go known w few s e = known (block (Priced d) [] []) p c e w few s (block_none i (cut_count i p))
begin_tells i p c cert Pinned go known w few s e =
    one_node i p (leaf_read p) c cert of.Pinned (go nodes (leaf_read p)) w refl tt (λ ns f. leaf_fills i p of.Pinned pinned ns refl (λ cuts q. (tt, tt)) f)
    (known nodes (leaf_read p) (record c { nodes = c.nodes ++ of.Pinned ∷ [] }) e (omega arith))
begin_tells i p c cert Bare go known w few s e =
    one_node i p (leaf_read p) c cert of.Bare (go nodes (leaf_read p)) w refl tt (λ ns f. leaf_fills i p of.Bare bare ns refl (λ cuts q. (tt, tt)) f)
    (known nodes (leaf_read p) (record c { nodes = c.nodes ++ of.Bare ∷ [] }) e (omega arith))

at_node_tells : (i : Instance) (p : Place) (c cert : Cert) (line : TextLine) (go : Go) → Known i cert go → p.nodes ≤ 20001
    → collected c (at_node i p line go) ≡ Ok cert → TellsNodes i p c (at_node i p line go) cert
at_node_tells i p c cert line go known few e = by (wants p) refl (node_at line.number i.groups p.nodes line.words) refl (is_end line.words) e
  where
    by : (w : Bool) → wants p ≡ w → (r : Result NodeLine PieceFault) → node_at line.number i.groups p.nodes line.words ≡ r → (z : Bool)
        → collected c (cond w (after r (λ h. begin h p go)) (cond z (go ended p) (Err (Trailing line.number) ∷ []))) ≡ Ok cert
        → TellsNodes i p c (cond w (after r (λ h. begin h p go)) (cond z (go ended p) (Err (Trailing line.number) ∷ []))) cert
    by true w (Err f) h z q = absurd cc
    by true w (Ok x) h z q = let is = node_is line.number i p.nodes line.words x h in begin_tells i p c cert x go known w is.0 is.1 q
    by false w r h true q = ends i p c cert (go ended p) w few (known ended p c q)
    by false w r h false q = absurd cc

block_tells : (i : Instance) (h : NodeLine) (cs : List ℤ) (ms : List Mult) (p : Place) (c cert : Cert) (line : TextLine) (go : Go) → IsSoundInstance i → Known i cert go
    → wants p ≡ true → p.nodes < 20001 → IsHead i h → Block i (cut_count i p) cs ms
    → collected c (in_block i h cs ms p line go) ≡ Ok cert → TellsNodes i p c (in_block i h cs ms p line go) cert
block_tells i h cs ms p c cert line go s known w few hd b e =
    by (ltb (length cs) (length i.cells)) refl (price_line line.number i cs line.words) refl (is_mult line.words) (mult_line line.number (cut_count i p) ms line.words) refl e
  where
    whole : Given
    whole = Ok (node (node_of h cs ms)) ∷ at_node i (node_read h p) line go

    by : (less : Bool) → ltb (length cs) (length i.cells) ≡ less → (r : Result (List ℤ) PieceFault) → price_line line.number i cs line.words ≡ r → (form : Bool)
        → (m : Result (List Mult) PieceFault) → mult_line line.number (cut_count i p) ms line.words ≡ m
        → collected c (cond less (after r (λ ds. go (block h ds ms) p)) (cond form (after m (λ ns. go (block h cs ns) p)) (Ok (node (node_of h cs ms)) ∷ at_node i (node_read h p) line go))) ≡ Ok cert
        → TellsNodes i p c (cond less (after r (λ ds. go (block h ds ms) p)) (cond form (after m (λ ns. go (block h cs ns) p)) (Ok (node (node_of h cs ms)) ∷ at_node i (node_read h p) line go))) cert
    by true less (Err f) r form m g q = absurd cc
    by true less (Ok ds) r form m g q =
        let lt : length cs < length i.cells = ltb-true (length cs) (length i.cells) less in
        known (block h ds ms) p c q w few hd (block_price i (cut_count i p) line.number cs ds ms line.words s b lt r)
    by false less r t true (Err f) g q = absurd cc
    by false less r t true (Ok ns) g q = known (block h cs ns) p c q w few hd (block_mult i (cut_count i p) line.number cs ms ns line.words b g)
    by false less r t false m g q =
        let all : length i.cells ≤ length cs = at_least (length cs) (length i.cells) less in
        head_told i p c cert h cs ms (at_node i (node_read h p) line go) w (head_sound i p h cs ms hd b all)
        (at_node_tells i (node_read h p) (record c { nodes = c.nodes ++ node_of h cs ms ∷ [] }) cert line go known (one_more h) q)
      where
        one_more : (x : NodeLine) → (node_read x p).nodes ≤ 20001
        one_more (Split a b own) = omega arith
        one_more (Priced d) = omega arith
        one_more Pinned = omega arith
        one_more Bare = omega arith

-- nodes alone are told
abbrev nodes_alone : (i : Instance) (p : Place) (c cert : Cert) (given : Given) → p ≡ no_place → TellsNodes i p c given cert → TellsRoster i c given cert
nodes_alone i p c cert given none t = record {
  shifts = [];
  told = t.told;
  list = t.list;
  made = t.made ∙ ap (λ (ss : List Shift). record c { shifts = ss; nodes = c.nodes ++ t.told }) (sym (append-nil c.shifts));
  sound = tt;
  few = omega (arith, t.few);
  listed = t.listed;
  fills = rw none at t.fills;
}

shifts_tell : (i : Instance) (n : ℕ) (p : Place) (c cert : Cert) (line : TextLine) (go : Go) → AreFine line.words → Known i cert go → p ≡ no_place → n ≤ 64
    → collected c (at_line i (shifts n) p line go) ≡ Ok cert → (r : TellsRoster i c (at_line i (shifts n) p line go) cert) × (n + length r.shifts ≤ 64)
shifts_tell i n p c cert line go fine known none few e = by (is_shift i.groups line.words) refl (shift_at line.number i n line.words) refl e
  where
    by : (form : Bool) → is_shift i.groups line.words ≡ form → (r : Result Shift PieceFault) → shift_at line.number i n line.words ≡ r
        → collected c (cond form (after r (λ s. Ok (shift s) ∷ go (shifts (n + 1)) p)) (at_node i p line go)) ≡ Ok cert
        → (r' : TellsRoster i c (cond form (after r (λ s. Ok (shift s) ∷ go (shifts (n + 1)) p)) (at_node i p line go)) cert) × (n + length r'.shifts ≤ 64)
    by true f (Err x) h q = absurd cc
    by true f (Ok s) h q =
        let is = shift_is line.number i n line.words s fine f h in
        let below : n < 64 = is.0 in
        let t = known (shifts (n + 1)) p (record c { shifts = c.shifts ++ s ∷ [] }) q none (omega arith) in
        let rest : n + 1 + length t.0.shifts ≤ 64 = t.1 in (
          record {
            shifts = s ∷ t.0.shifts;
            told = t.0.told;
            list = ap (λ (g : Given). Ok (shift s) ∷ g) t.0.list;
            made = t.0.made ∙ ap (λ (ss : List Shift). record c { shifts = ss; nodes = c.nodes ++ t.0.told }) (append_assoc c.shifts (s ∷ []) t.0.shifts);
            sound = (is.1, t.0.sound);
            few = t.0.few;
            listed = t.0.listed;
            fills = t.0.fills;
          },
          omega arith,
        )
    by false f r h q =
        let nodes_few : p.nodes ≤ 20001 = rw none (omega arith) in
        (nodes_alone i p c cert (at_node i p line go) none (at_node_tells i p c cert line go known nodes_few q), omega arith)

bounds_tell : (i : Instance) (paid : Bool) (p : Place) (c cert : Cert) (line : TextLine) (go : Go) → Known i cert go → p ≡ no_place
    → collected c (at_line i (bounds paid) p line go) ≡ Ok cert → TellsBound i paid c (at_line i (bounds paid) p line go) cert
bounds_tell i paid p c cert line go known none e = by paid (amount_line line.number (codes "bound") line.words) refl e
  where
    by : (b : Bool) (r : Result (Option ℕ) PieceFault) → amount_line line.number (codes "bound") line.words ≡ r
        → collected c (after r (λ x. Ok (bound x) ∷ go (after_bound b) p)) ≡ Ok cert → TellsBound i b c (after r (λ x. Ok (bound x) ∷ go (after_bound b) p)) cert
    by b (Err f) h q = absurd cc
    by true (Ok x) h q =
        let t = known (shifts 0) p (record c { bound = x }) q none (omega arith) in
        let few : 0 + length t.0.shifts ≤ 64 = t.1 in
        record { said = x; rest = go (shifts 0) p; list = refl; roster = t.0; within = amount_line_within line.number (codes "bound") line.words x h; few = omega arith; none = λ n. absurd cc }
    by false (Ok x) h q =
        let nodes_few : p.nodes ≤ 20001 = rw none (omega arith) in
        let t = nodes_alone i p (record c { bound = x }) cert (go nodes p) none (known nodes p (record c { bound = x }) q nodes_few) in
        record { said = x; rest = go nodes p; list = refl; roster = t; within = amount_line_within line.number (codes "bound") line.words x h; few = omega arith; none = λ n. refl }

costs_tell : (i : Instance) (p : Place) (c cert : Cert) (line : TextLine) (go : Go) → Known i cert go → p ≡ no_place
    → collected c (at_line i costs p line go) ≡ Ok cert → TellsCost i c (at_line i costs p line go) cert
costs_tell i p c cert line go known none e = by (amount_line line.number (codes "cost") line.words) refl e
  where
    by : (r : Result (Option ℕ) PieceFault) → amount_line line.number (codes "cost") line.words ≡ r
        → collected c (after r (λ x. Ok (cost x) ∷ go (bounds (is_some x)) p)) ≡ Ok cert → TellsCost i c (after r (λ x. Ok (cost x) ∷ go (bounds (is_some x)) p)) cert
    by (Err f) h q = absurd cc
    by (Ok x) h q = record {
      said = x;
      rest = go (bounds (is_some x)) p;
      list = refl;
      within = amount_line_within line.number (codes "cost") line.words x h;
      bounds = known (bounds (is_some x)) p (record c { cost = x }) q none;
    }

start_tells : (i : Instance) (p : Place) (c cert : Cert) (line : TextLine) (go : Go) → Known i cert go
    → collected c (at_line i start p line go) ≡ Ok cert → TellsCost i c (at_line i start p line go) cert
start_tells i p c cert line go known e = by (is_header i.groups line.words) e
  where
    by : (t : Bool) → collected c (cond t (go costs no_place) (Err (BadHeader line.number) ∷ [])) ≡ Ok cert → TellsCost i c (cond t (go costs no_place) (Err (BadHeader line.number) ∷ [])) cert
    by true q = known costs no_place c q refl
    by false q = absurd cc

line_tells : (i : Instance) (t : Spot) (p : Place) (c cert : Cert) (line : TextLine) (go : Go) → IsSoundInstance i → AreFine line.words → Known i cert go
    → collected c (at_line i t p line go) ≡ Ok cert → Tells i t p c (at_line i t p line go) cert
line_tells i too_long p c cert line go s f known e = tt
line_tells i start p c cert line go s f known e = start_tells i p c cert line go known e
line_tells i costs p c cert line go s f known e = λ none. costs_tell i p c cert line go known none e
line_tells i (bounds paid) p c cert line go s f known e = λ none. bounds_tell i paid p c cert line go known none e
line_tells i (shifts n) p c cert line go s f known e = λ none few. shifts_tell i n p c cert line go f known none few e
line_tells i nodes p c cert line go s f known e = λ few. at_node_tells i p c cert line go known few e
line_tells i (block h cs ms) p c cert line go s f known e = λ w few hd b. block_tells i h cs ms p c cert line go s known w few hd b e
line_tells i ended p c cert line go s f known e = absurd cc
line_tells i over p c cert line go s f known e = tt

-- a text does not end behind a price block
pub not_whole : (b : Bool) (n : Node) (f : PieceFault) (c cert : Cert) → collected c (cond b [] (Ok (node n) ∷ []) ++ Err f ∷ []) ≡ Ok cert → ⊥
not_whole true n f c cert e = cc
not_whole false n f c cert e = cc

end_tells : (i : Instance) (t : Spot) (p : Place) (c cert : Cert) → collected c (at_end i t) ≡ Ok cert → Tells i t p c (at_end i t) cert
end_tells i too_long p c cert e = tt
end_tells i start p c cert e = absurd cc
end_tells i costs p c cert e = absurd cc
end_tells i (bounds paid) p c cert e = absurd cc
end_tells i (shifts n) p c cert e = absurd cc
end_tells i nodes p c cert e = absurd cc
end_tells i (block h cs ms) p c cert e = absurd (not_whole (ltb (length cs) (length i.cells)) (node_of h cs ms) CutShort c cert e)
end_tells i ended p c cert e = (refl, sym (said_ok c cert e))
end_tells i over p c cert e = tt

bad_tells : (i : Instance) (t : Spot) (p : Place) (c cert : Cert) (k : ℕ) → collected c (at_bad i t k) ≡ Ok cert → Tells i t p c (at_bad i t k) cert
bad_tells i too_long p c cert k e = tt
bad_tells i start p c cert k e = absurd cc
bad_tells i costs p c cert k e = absurd cc
bad_tells i (bounds paid) p c cert k e = absurd cc
bad_tells i (shifts n) p c cert k e = absurd cc
bad_tells i nodes p c cert k e = absurd cc
bad_tells i (block h cs ms) p c cert k e = absurd (not_whole (ltb (length cs) (length i.cells)) (node_of h cs ms) (BadByte k) c cert e)
bad_tells i ended p c cert k e = absurd cc
bad_tells i over p c cert k e = tt

tells : (i : Instance) (t : Spot) (p : Place) (c cert : Cert) (items : Items) → IsSoundInstance i → Each IsFine items
    → collected c (pieces_from i t p items) ≡ Ok cert → Tells i t p c (pieces_from i t p items) cert
tells i t p c cert [] s f e = end_tells i t p c cert e
tells i t p c cert (Err b ∷ items) s f e = bad_tells i t p c cert b.line e
tells i t p c cert (Ok line ∷ items) s f e =
    line_tells i t p c cert line (λ u q. pieces_from i u q items) s f.0 (λ u q d h. tells i u q d cert items s f.1 h) e

text_tells : (i : Instance) (text : List ℕ) (cert : Cert) → IsSoundInstance i → proof_of i text ≡ Ok cert → TellsCost i no_cert (pieces_of i text) cert
unfolding proof_of pieces_of pieces_left
text_tells i text cert s e = by (ltb 1073741824 (length text)) e
  where
    reader : Bool → Reader
    reader t = cond t (record { left = []; stage = TooLong; nodes_before = 0 }) (record { left = text_items text; stage = Start; nodes_before = 0 })

    from : Reader → Given
    from r = pieces_from i (spot_of r.stage) (record { nodes = r.nodes_before; halves = [] }) r.left

    by : (t : Bool) → collected no_cert (from (reader t)) ≡ Ok cert → TellsCost i no_cert (from (reader t)) cert
    by true q = absurd cc
    by false q = tells i start no_place no_cert cert (text_items text) s (text_fine text) q

told_sound : (i : Instance) (cert : Cert) (given : Given) → TellsCost i no_cert given cert → IsSoundCert i cert
told_sound i cert given t =
    let r = t.bounds.roster in
    let p = whole_proof i r.told r.fills r.few in
    let is : IsSoundCert i (record { shifts = r.shifts; cost = t.said; bound = t.bounds.said; nodes = r.told }) = record {
      proof = p.0;
      nodes = p.1;
      listed = r.listed;
      shifts = r.sound;
      few = t.bounds.few;
      none = λ e. t.bounds.none (ap (λ (o : Option ℕ). is_some o) e);
      cost = t.within;
      bound = t.bounds.within;
    } in
    subst (IsSoundCert i) (sym r.made) is

told_list : (i : Instance) (cert : Cert) (given : Given) → TellsCost i no_cert given cert → given ≡ cert_pieces cert
told_list i cert given t =
    let r = t.bounds.roster in
    t.list ∙ ap (λ (g : Given). Ok (cost t.said) ∷ g) (t.bounds.list ∙ ap (λ (g : Given). Ok (bound t.bounds.said) ∷ g) r.list) ∙ ap cert_pieces (sym r.made)

-- the certificate that a text tells is sound
pub cert_sound : (i : Instance) (text : List ℕ) (cert : Cert) → IsSoundInstance i → proof_of i text ≡ Ok cert → IsSoundCert i cert
cert_sound i text cert s e = told_sound i cert (pieces_of i text) (text_tells i text cert s e)

-- the pieces of a text that tells a certificate are those of the certificate
pub cert_list : (i : Instance) (text : List ℕ) (cert : Cert) → IsSoundInstance i → proof_of i text ≡ Ok cert → pieces_of i text ≡ cert_pieces cert
cert_list i text cert s e = told_list i cert (pieces_of i text) (text_tells i text cert s e)
