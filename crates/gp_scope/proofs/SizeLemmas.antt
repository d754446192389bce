-- The sizes of structs by their places, round by round.
use Rattle.std.proofs.Common.{◌≡◌, ℕ, suc, ◌+◌, Bool, true, false, cond, List, [], ◌∷◌, ◌++◌, map, length, Option, Some, None, min, refl, sym, ap, ◌∙◌, Bor, bytes_eq, slice_get, unwrap_or, option_map, arith, add-one}
use Rattle.std.specs.Option.{option_map_or}
use Rattle.std.specs.List.{position_from}
use Rattle.std.proofs.lemmas.Iterator.Adapters.{position_from-zero}
use Rattle.std.specs.Map.{lookup, keys_of, values_of}
use Rattle.indexmap.specs.IndexMap.{IndexMap, get_by, index_of_by, values}
use Rattle.gp_tree.specs.declared.struct_decl.StructDecl.{StructDecl}
use Rattle.gp_tree.specs.Program.{ProgramItem, struct_definition}
use Rattle.gp_scope.specs.code.Levels.{fields_total, level_size}
use Rattle.gp_scope.specs.Tables.{Hasher, HasStructs, value_in}
use Rattle.gp_scope.proofs.Levels.{level-none, level-suc}

Structs : Type 0
Structs = IndexMap (Bor (List ℕ)) (Bor StructDecl) Hasher

-- no sizes yet: each name counts 1
pub value_in-empty : (structs : IndexMap (Bor (List ℕ)) (Bor StructDecl) Hasher) (q : List ℕ) → value_in structs [] q ≡ 1
value_in-empty structs q = go (index_of_by (λ k. bytes_eq q k.now) structs)
  where
    go : (r : Option ℕ) → ◌≡◌ {A = ℕ} (option_map_or (λ place. unwrap_or (slice_get [] place) 1) r 1) 1
    go None = refl
    go (Some i) = refl

get-behind : (pre : List ℕ) (x : ℕ) (rest : List ℕ) → slice_get (pre ++ x ∷ rest) (length pre) ≡ Some x
get-behind [] x rest = refl
get-behind (p ∷ pre) x rest = get-behind pre x rest

append-one : (pre : List ℕ) (x : ℕ) (rest : List ℕ) → (pre ++ x ∷ []) ++ rest ≡ pre ++ x ∷ rest
append-one [] x rest = refl
append-one (p ∷ pre) x rest = ap (λ l. p ∷ l) (append-one pre x rest)

length-one : (pre : List ℕ) (x : ℕ) → length (pre ++ x ∷ []) ≡ length pre + 1
length-one [] x = refl
length-one (p ∷ pre) x = let e : length (pre ++ x ∷ []) ≡ length pre + 1 = length-one pre x in omega arith

-- a value by its place is the value by its key
by_place : {K V : Type 0} (test : K → Bool) (f : V → ℕ) (es : List (K × V)) (pre : List ℕ) (i : ℕ) → i ≡ length pre
    → option_map_or (λ place. unwrap_or (slice_get (pre ++ map f (values_of es)) place) 1) (position_from test i (keys_of es)) 1 ≡ option_map_or f (lookup test es) 1
by_place test f [] pre i at = refl
by_place test f (e ∷ es) pre i at =
    elim (test e.0) as (λ b. option_map_or (λ place. unwrap_or (slice_get (pre ++ f e.1 ∷ map f (values_of es)) place) 1) (cond b (Some i) (position_from test (i + 1) (keys_of es))) 1
    ≡ option_map_or f (cond b (Some e.1) (lookup test es)) 1) [
      | true ↦ ap (λ k. unwrap_or (slice_get (pre ++ f e.1 ∷ map f (values_of es)) k) 1) at ∙ ap (λ r. unwrap_or r 1) (get-behind pre (f e.1) (map f (values_of es)))
      | false ↦
          ap (λ l. option_map_or (λ place. unwrap_or (slice_get l place) 1) (position_from test (i + 1) (keys_of es)) 1) (sym (append-one pre (f e.1) (map f (values_of es))))
          ∙ by_place test f es (pre ++ f e.1 ∷ []) (i + 1) (ap (λ n. n + 1) at ∙ sym (length-one pre (f e.1)))
    ]

fields_same : (f g : List ℕ → ℕ) → ((q : List ℕ) → f q ≡ g q) → f ≡ g
fields_same f g e = λ j q. e q j

-- the next sizes are those of one level more
pub next-level : (program : List ProgramItem) (structs : IndexMap (Bor (List ℕ)) (Bor StructDecl) Hasher) → HasStructs program structs
    → (n : ℕ) (sizes next : List ℕ) → ((q : List ℕ) → value_in structs sizes q ≡ level_size n program q)
    → next ≡ map (λ s. min (suc (fields_total (value_in structs sizes) (struct_definition s.now).fields)) 65) (values structs)
    → (q : List ℕ) → value_in structs next q ≡ level_size (n + 1) program q
next-level program structs has n sizes next before made q =
    ap (λ l. value_in structs l q) made
    ∙ ap (λ r. option_map_or (λ place. unwrap_or (slice_get (map (λ s. min (suc (fields_total (value_in structs sizes) (struct_definition s.now).fields)) 65) (values structs)) place) 1) r 1) (position_from-zero (λ k. bytes_eq q k.now) (keys_of structs.entries))
    ∙ by_place (λ k. bytes_eq q k.now) (λ s. min (suc (fields_total (value_in structs sizes) (struct_definition s.now).fields)) 65) structs.entries [] 0 refl
    ∙ go (get_by (λ k. bytes_eq q k.now) structs) refl
  where
    same : value_in structs sizes ≡ level_size n program
    same = fields_same (value_in structs sizes) (level_size n program) before

    go : (r : Option (Bor StructDecl)) → get_by (λ k. bytes_eq q k.now) structs ≡ r
        → option_map_or (λ s. min (suc (fields_total (value_in structs sizes) (struct_definition s.now).fields)) 65) r 1 ≡ level_size (n + 1) program q
    go None e = sym (level-none program (n + 1) q (sym (has q) ∙ ap (option_map (λ s. struct_definition s.now)) e))
    go (Some s) e =
        ap (λ f. min (suc (fields_total f (struct_definition s.now).fields)) 65) same
        ∙ sym (level-suc program n q (struct_definition s.now) (sym (has q) ∙ ap (option_map (λ d. struct_definition d.now)) e))
        ∙ ap (λ k. level_size k program q) (sym (add-one n))
