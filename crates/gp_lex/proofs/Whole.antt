-- All pieces of a text, or its first fault.
use Rattle.std.proofs.Common.{◌≡◌, ℕ, zero, suc, ◌-◌, ◌<◌, ◌≤◌, true, false, List, [], ◌∷◌, ◌++◌, length, take, drop, Option, Some, None, Result, Ok, Err, refl, sym, ap, subst, ◌∙◌, arith, length-append}
use Rattle.std.proofs.Math.Seq.{take-append_seam, drop-append_seam}
use Rattle.std.specs.Prelude.{flat_map}
use Rattle.gp_lex.specs.declared.fault.LexFault.{LexFault}
use Rattle.gp_lex.specs.declared.fault.LexFault.TheVariants as fault
use Rattle.gp_lex.specs.declared.token.Token.{Token}
use Rattle.gp_lex.specs.declared.context.Bracket.{Bracket}
use Rattle.gp_lex.specs.declared.context.Context.{Context}
use Rattle.gp_lex.specs.declared.context.PieceKind.{PieceKind}
use Rattle.gp_lex.specs.declared.context.PieceKind.TheVariants as k
use Rattle.gp_lex.specs.Chars.{Text, is_quote}
use Rattle.gp_lex.specs.Tokens.{string_at, Lexeme, lexeme_of, token_of}
use Rattle.gp_lex.specs.Pieces as g
use Rattle.gp_lex.specs.Pieces.{Piece, behind, line_no, is_tabbed, fits, IsAt, comment_len, is_gap, IsPiece, Spelled, has_backslash, Unread, Faulty}
use Rattle.gp_lex.specs.code.Reading.{◌>>=◌, lexeme_at, as_quoted, Next, line_end_at, gap_at, fitted, piece_at, at_end, front, pieces_from}
use Rattle.gp_lex.proofs.Symbols.{some_none}
use Rattle.gp_lex.proofs.Longest.{lexeme_taken, lexeme_found, at_string}
use Rattle.gp_lex.proofs.Exact.{broken, as_piece, bind_ok, here, later, bind_err, ok_is, Reads, piece_reads, piece_unread, at_gap, at_no_gap, at_tab, at_no_tab, no_gap, lexeme_gap, quote_gap}

abbrev next : Next → Option Next
next x = Some x

-- ---- the piece that stands at a position is cut off there

feed_gap : (rest : Text) → gap_at (10 ∷ rest) ≡ Some (k.LineEnd, rest)
unfolding gap_at line_end_at
feed_gap [] = refl
feed_gap (c ∷ cs) = refl

return_gap : (rest : Text) → gap_at (13 ∷ 10 ∷ rest) ≡ Some (k.LineEnd, rest)
unfolding gap_at line_end_at
return_gap rest = refl

space_gap : (rest : Text) → gap_at (32 ∷ rest) ≡ Some (k.Space, rest)
unfolding gap_at
space_gap rest = refl

tab_gap : (rest : Text) → gap_at (9 ∷ rest) ≡ Some (k.Tab, rest)
unfolding gap_at
tab_gap rest = refl

comment_gap : (body rest : Text) → comment_len (body ++ rest) ≡ length body → gap_at (35 ∷ (body ++ rest)) ≡ Some (k.Comment, rest)
unfolding gap_at
comment_gap body rest e = ap (λ (n : ℕ). next (k.Comment, drop n (body ++ rest))) e ∙ ap (λ (z : Text). next (k.Comment, z)) (drop-append_seam body rest)

at_token : (at : Context) (c : ℕ) (cs : Text) → is_gap (c ∷ cs) ≡ false → is_tabbed at.margin ≡ false → piece_at at (c ∷ cs) ≡ as_piece at c cs (lexeme_at (c ∷ cs))
at_token at c cs gap clean = at_no_gap at (c ∷ cs) (no_gap (c ∷ cs) gap) ∙ at_no_tab at c cs clean

at_lexeme : (at : Context) (a rest : Text) (l : Lexeme) → is_tabbed at.margin ≡ false → IsAt a rest l → piece_at at (a ++ rest) ≡ (token_of (line_no at.line) l rest >>= λ x. fitted at x rest)
at_lexeme at [] rest l clean h = absurd (let yes = h.spells in cc)
at_lexeme at (c ∷ a) rest l clean h = at_token at c (a ++ rest) (lexeme_gap c a rest l h.spells) clean ∙ ap (as_piece at c (a ++ rest)) (lexeme_found (c ∷ a) rest l h)

at_good : (at : Context) (a rest : Text) (l : Lexeme) (x : Token) → is_tabbed at.margin ≡ false → IsAt a rest l → token_of (line_no at.line) l rest ≡ Ok x → piece_at at (a ++ rest) ≡ fitted at x rest
at_good at a rest l x clean h tok = at_lexeme at a rest l clean h ∙ ap (λ (r : Result Token LexFault). r >>= λ (y : Token). fitted at y rest) tok

pub piece_is : (at : Context) {a : Text} {kind : PieceKind} {rest : Text} → IsPiece at a kind rest → piece_at at (a ++ rest) ≡ Ok (kind, rest)
piece_is at (g.space rest) = at_gap at (32 ∷ rest) (k.Space, rest) (space_gap rest)
piece_is at (g.tab rest) = at_gap at (9 ∷ rest) (k.Tab, rest) (tab_gap rest)
piece_is at (g.comment body rest e) = at_gap at (35 ∷ (body ++ rest)) (k.Comment, rest) (comment_gap body rest e)
piece_is at (g.line_feed rest) = at_gap at (10 ∷ rest) (k.LineEnd, rest) (feed_gap rest)
piece_is at (g.return_and_line_feed rest) = at_gap at (13 ∷ 10 ∷ rest) (k.LineEnd, rest) (return_gap rest)
piece_is at (g.token a rest l x clean h tok fit) = at_good at a rest l x clean h tok ∙ rw fit refl

no_lexeme_at : (c : ℕ) (cs : Text) → ((a rest : Text) → c ∷ cs ≡ a ++ rest → lexeme_of a ≡ None) → lexeme_at (c ∷ cs) ≡ None
no_lexeme_at c cs none = by (lexeme_at (c ∷ cs)) refl
  where
    by : (o : Option (Lexeme × Text)) → lexeme_at (c ∷ cs) ≡ o → o ≡ None
    by None e = refl
    by (Some y) e = let taken = lexeme_taken (c ∷ cs) y e in absurd (some_none y.0 (sym taken.is.spells ∙ none taken.text y.1 taken.parts))

at_broken : (at : Context) (q : ℕ) (cs : Text) → is_tabbed at.margin ≡ false → is_quote q ≡ true → string_at q cs ≡ None → piece_at at (q ∷ cs) ≡ Err (broken (line_no at.line) q cs)
at_broken at q cs clean h none = at_token at q cs (quote_gap q cs h) clean ∙ ap (as_piece at q cs) (at_string q cs h ∙ ap as_quoted none)

pub unread_is : (at : Context) {bs : Text} {f : LexFault} → Unread at bs f → piece_at at bs ≡ Err f
unread_is at (g.tab_indent c cs gap h) = at_no_gap at (c ∷ cs) (no_gap (c ∷ cs) gap) ∙ at_tab at c cs h
unread_is at (g.no_token a rest l f clean h tok) = at_lexeme at a rest l clean h ∙ ap (λ (r : Result Token LexFault). r >>= λ (y : Token). fitted at y rest) tok
unread_is at (g.unmatched a rest l x clean h tok fit) = at_good at a rest l x clean h tok ∙ rw fit refl
unread_is at (g.bad_char c cs gap clean q none) = at_token at c cs gap clean ∙ ap (as_piece at c cs) (no_lexeme_at c cs none) ∙ rw q refl
unread_is at (g.backslash q cs clean h none b) = at_broken at q cs clean h none ∙ rw (h, b) refl
unread_is at (g.unclosed q cs clean h none b) = at_broken at q cs clean h none ∙ rw (h, b) refl

-- ---- sizes

lexeme_text : (a : Text) (l : Lexeme) → lexeme_of a ≡ Some l → 0 < length a
lexeme_text [] l e = absurd cc
lexeme_text (c ∷ a) l e = omega arith

pub piece_text : (at : Context) {a : Text} {kind : PieceKind} {rest : Text} → IsPiece at a kind rest → 0 < length a
piece_text at (g.space rest) = omega arith
piece_text at (g.tab rest) = omega arith
piece_text at (g.comment body rest e) = omega arith
piece_text at (g.line_feed rest) = omega arith
piece_text at (g.return_and_line_feed rest) = omega arith
piece_text at (g.token a rest l x clean h tok fit) = lexeme_text a l h.spells

pub front_is : (a rest : Text) → front (a ++ rest) rest ≡ a
front_is a rest =
    let len : length (a ++ rest) - length rest ≡ length a = omega (arith, length-append a rest) in
    ap (λ (n : ℕ). take n (a ++ rest)) len ∙ take-append_seam a rest

pub reads_front : (at : Context) (bs : Text) (x : Next) (r : Reads at bs x) → front bs x.1 ≡ r.text
reads_front at bs x r = ap (λ (z : Text). front z x.1) r.parts ∙ front_is r.text x.1

pub reads_less : (at : Context) (bs : Text) (x : Next) → Reads at bs x → length x.1 < length bs
reads_less at bs x r = omega (arith, ap length r.parts, length-append r.text x.1, piece_text at r.is)

-- ---- the pieces that are cut off are the text's

end_ok : (bs : List Bracket) (ps : List Piece) → at_end bs ≡ Ok ps → (bs ≡ []) × (ps ≡ [])
end_ok [] ps e = (refl, sym (ok_is [] ps e))
end_ok (b ∷ bs) ps e = absurd cc

ended : (at : Context) (ps : List Piece) → at_end at.brackets ≡ Ok ps → Spelled at [] ps
ended at ps e = let h = end_ok at.brackets ps e in subst (λ (z : List Piece). Spelled at [] z) (sym h.1) (g.ended at h.0)

abbrev piece : Text → PieceKind → Piece
piece a kind = record { text = a; kind = kind }

-- a piece before others
before : (at : Context) (bs : Text) (x : Next) (ps : List Piece) (r : Reads at bs x) → Spelled (behind at (front bs x.1) x.0) x.1 ps → Spelled at bs (piece (front bs x.1) x.0 ∷ ps)
before at bs x ps r h =
    let e = reads_front at bs x r in
    let tail = subst (λ (z : Text). Spelled (behind at z x.0) x.1 ps) e h in
    subst (λ (z : Text). Spelled at z (piece (front bs x.1) x.0 ∷ ps)) (sym r.parts)
    (subst (λ (z : Text). Spelled at (r.text ++ x.1) (piece z x.0 ∷ ps)) (sym e) (g.piece at r.text x.0 x.1 ps r.is tail))

pub pieces_spelled : (n : ℕ) (at : Context) (bs : Text) (ps : List Piece) → length bs ≤ n → pieces_from n at bs ≡ Ok ps → Spelled at bs ps
unfolding pieces_from
pieces_spelled zero at [] ps le e = ended at ps e
pieces_spelled zero at (c ∷ cs) ps le e = absurd (omega arith)
pieces_spelled (suc n) at [] ps le e = ended at ps e
pieces_spelled (suc n) at (c ∷ cs) ps le e =
    let x = bind_ok _ _ ps e in
    let y = bind_ok _ _ ps x.2 in
    let r = piece_reads at (c ∷ cs) x.0 x.1 in
    subst (λ (z : List Piece). Spelled at (c ∷ cs) z) (ok_is (piece (front (c ∷ cs) x.0.1) x.0.0 ∷ y.0) ps y.2)
    (before at (c ∷ cs) x.0 y.0 r (pieces_spelled n (behind at (front (c ∷ cs) x.0.1) x.0.0) x.0.1 y.0 (omega (arith, reads_less at (c ∷ cs) x.0 r)) y.1))

abbrev refused : LexFault → Result (List Piece) LexFault
refused f = Err f

refused_is : (f d : LexFault) → refused f ≡ refused d → f ≡ d
refused_is f d e = cc

end_err : (at : Context) (bs : List Bracket) (f : LexFault) → at.brackets ≡ bs → at_end bs ≡ Err f → Faulty at [] f
end_err at [] f same e = absurd cc
end_err at (b ∷ bs) f same e = subst (λ (z : LexFault). Faulty at [] z) (refused_is (fault.Unclosed b.line) f e) (g.bracket at b bs same)

-- a fault behind a piece
behind_piece : (at : Context) (bs : Text) (x : Next) (f : LexFault) (r : Reads at bs x) → Faulty (behind at (front bs x.1) x.0) x.1 f → Faulty at bs f
behind_piece at bs x f r h =
    let tail = subst (λ (z : Text). Faulty (behind at z x.0) x.1 f) (reads_front at bs x r) h in
    subst (λ (z : Text). Faulty at z f) (sym r.parts) (g.later at r.text x.0 x.1 f r.is tail)

pub pieces_faulty : (n : ℕ) (at : Context) (bs : Text) (f : LexFault) → length bs ≤ n → pieces_from n at bs ≡ Err f → Faulty at bs f
unfolding pieces_from
pieces_faulty zero at [] f le e = end_err at at.brackets f refl e
pieces_faulty zero at (c ∷ cs) f le e = absurd (omega arith)
pieces_faulty (suc n) at [] f le e = end_err at at.brackets f refl e
pieces_faulty (suc n) at (c ∷ cs) f le e =
    elim (bind_err _ _ f e) [
      | here h ↦ g.here at (c ∷ cs) f (piece_unread at c cs f h)
      | later x h go ↦
          let r = piece_reads at (c ∷ cs) x h in
          elim (bind_err _ _ f go) [
            | here j ↦ behind_piece at (c ∷ cs) x f r (pieces_faulty n (behind at (front (c ∷ cs) x.1) x.0) x.1 f (omega (arith, reads_less at (c ∷ cs) x r)) j)
            | later y j end ↦ absurd cc
          ]
    ]

-- ---- what is spelled so is cut off so

pub turn : (n : ℕ) (at : Context) (bs : Text) (x : Next) → 0 < length bs → piece_at at bs ≡ Ok x
    → pieces_from (suc n) at bs ≡ (pieces_from n (behind at (front bs x.1) x.0) x.1 >>= λ ps. Ok (piece (front bs x.1) x.0 ∷ ps))
unfolding pieces_from
turn n at [] x lt e = absurd (omega arith)
turn n at (c ∷ cs) x lt e = rw e refl

pub turn_fails : (n : ℕ) (at : Context) (bs : Text) (f : LexFault) → 0 < length bs → piece_at at bs ≡ Err f → pieces_from (suc n) at bs ≡ Err f
unfolding pieces_from
turn_fails n at [] f lt e = absurd (omega arith)
turn_fails n at (c ∷ cs) f lt e = rw e refl

at_piece : (n : ℕ) (at : Context) (a : Text) (kind : PieceKind) (rest : Text) → IsPiece at a kind rest
    → pieces_from (suc n) at (a ++ rest) ≡ (pieces_from n (behind at a kind) rest >>= λ ps. Ok (piece a kind ∷ ps))
at_piece n at a kind rest h =
    turn n at (a ++ rest) (kind, rest) (omega (arith, length-append a rest, piece_text at h)) (piece_is at h)
    ∙ ap (λ (z : Text). pieces_from n (behind at z kind) rest >>= λ ps. Ok (piece z kind ∷ ps)) (front_is a rest)

pub nothing_left : (n : ℕ) (at : Context) → pieces_from n at [] ≡ at_end at.brackets
unfolding pieces_from
nothing_left zero at = refl
nothing_left (suc n) at = refl

pub cuts : {at : Context} {bs : Text} {ps : List Piece} → Spelled at bs ps → (n : ℕ) → length bs ≤ n → pieces_from n at bs ≡ Ok ps
cuts (g.ended at e) n le = nothing_left n at ∙ ap at_end e
cuts (g.piece at a kind rest ps h s) zero le = absurd (omega (arith, length-append a rest, piece_text at h))
cuts (g.piece at a kind rest ps h s) (suc n) le =
    at_piece n at a kind rest h ∙ ap (λ (r : Result (List Piece) LexFault). r >>= λ qs. Ok (piece a kind ∷ qs)) (cuts s n (omega (arith, length-append a rest, piece_text at h)))

unread_text : (at : Context) {bs : Text} {f : LexFault} → Unread at bs f → 0 < length bs
unread_text at (g.tab_indent c cs gap h) = omega arith
unread_text at (g.no_token a rest l f clean h tok) = omega (arith, length-append a rest, lexeme_text a l h.spells)
unread_text at (g.unmatched a rest l x clean h tok fit) = omega (arith, length-append a rest, lexeme_text a l h.spells)
unread_text at (g.bad_char c cs gap clean q none) = omega arith
unread_text at (g.backslash q cs clean h none b) = omega arith
unread_text at (g.unclosed q cs clean h none b) = omega arith

pub refuses : {at : Context} {bs : Text} {f : LexFault} → Faulty at bs f → (n : ℕ) → length bs ≤ n → pieces_from n at bs ≡ Err f
refuses (g.here at rest f u) zero le = absurd (omega (arith, unread_text at u))
refuses (g.here at rest f u) (suc n) le = turn_fails n at rest f (unread_text at u) (unread_is at u)
refuses (g.bracket at b bs e) n le = nothing_left n at ∙ ap at_end e
refuses (g.later at a kind rest f h d) zero le = absurd (omega (arith, length-append a rest, piece_text at h))
refuses (g.later at a kind rest f h d) (suc n) le =
    at_piece n at a kind rest h ∙ ap (λ (r : Result (List Piece) LexFault). r >>= λ qs. Ok (piece a kind ∷ qs)) (refuses d n (omega (arith, length-append a rest, piece_text at h)))

-- ---- the texts of pieces

pub joined : {at : Context} {bs : Text} {ps : List Piece} → Spelled at bs ps → flat_map (λ p. p.text) ps ≡ bs
joined (g.ended at e) = refl
joined (g.piece at a kind rest ps h s) = ap (λ (z : Text). a ++ z) (joined s)
