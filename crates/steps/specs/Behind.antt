-- Behind slot 4: the table of slot 0 is copied there, is worked on as a part of its own, and comes back.
use Rattle.std.specs.Prelude.{◌+◌, ◌-◌, ◌≤◌, ◌≡◌, refl, Bool, length, drop}
use Rattle.std.specs.Prelude.{Result as Outcome}
use Rattle.std.proofs.Common.{sym, ◌∙◌, ap, subst, inl, arith}
use Rattle.std.proofs.Math.Option.{none}
use borrow.Rule.Slice.PartMut.{put_mid}
use Rattle.rules.specs.Lists.{Words}
use Rattle.rules.specs.Sheet.{at}
use Rattle.rules.specs.Types.{Types, ImplType}
use Rattle.rules.specs.Transfer.{import_impl_type}
use Rattle.rules.specs.Search.{end, impl_params}
use Rattle.rules.specs.Search as rules
use Rattle.rules.specs.Solutions.{AllIn}
use Rattle.rules.specs.Neat.{Neat}
use Rattle.table.specs.Packing.{types_of, Packed}
use Rattle.slots.specs.Slots.{Table, Written, table_move}
use Rattle.slots.specs.Copies.{Beside}
use Rattle.slots.specs.Parts.{part, part-table, Lent, lent}
use Rattle.queries.specs.declared.Query.{Query}
use Rattle.queries.specs.Queries.{query_of}
use Rattle.refusals.specs.declared.Refusal.{Refusal}
use Rattle.opening.specs.Sound as opening
use Rattle.opening.specs.Meeting.{Meets}
use Rattle.clash.specs.Params.{Calling}
use Rattle.steps.specs.declared.Finder.{Finder}
use Rattle.steps.specs.Asking.{finder_of, Sound, Asking, Opened}

-- The sheet's own promise.
pub sound_sheet : (s : Words) (f : Finder) → Sound (finder_of s f) → opening.Sound s
sound_sheet s f h = opening.sound_of (finder_of s f) h.question h.ready h.ready.short

-- A call with these generics.
pub calling_of : (s : Words) (f : Finder) → Sound (finder_of s f) → Calling s f.generics
calling_of s f h = record { source = f.source; question = h.question; ready = h.ready }

pub beside_behind : Beside 0 6410
beside_behind = record { either = inl (omega arith) }

-- The copy, with a question of the table.
module _ (ws us : Words) (q : Query) (a : Asking ws q) (w : Written ws us 6410 (types_of ws, end)) where
  copied : Table (part 6410 us) 0 (types_of ws)
  copied = part-table 6410 us (types_of ws) w.slot.table

  pub behind_packed : Packed (part 6410 us)
  behind_packed = copied.packed

  pub behind_neat : Neat (types_of (part 6410 us))
  behind_neat = subst Neat (sym copied.is) a.neat

  pub behind_inside : AllIn (length (types_of (part 6410 us))) (query_of q).1
  behind_inside = subst (λ (ts : Types). AllIn (length ts) (query_of q).1) (sym copied.is) a.inside

-- What came back: the table is that of the part, and slots 0 to 4 are as they were.
module _ (ws us ys : Words) (w : Written ws us 6410 (types_of ws, end)) (kept : length ys ≡ length (part 6410 us)) where
  abbrev back : Words
  back = put_mid 6410 (length us - 6410) us ys

  came : Lent 6410 us ys back
  came = lent 6410 us ys (omega (arith, w.slot.room)) kept

  pub back-table : Packed ys → Table back 6410 (types_of ys)
  back-table p = table_move ys back 0 6410 (types_of ys) (omega (arith, came.long, w.slot.room))
      (λ i l m. came.part i (omega (arith, w.slot.room)) ∙ ap (at ys) (let z : i ≡ 0 + i = omega arith in z)) (record { packed = p; is = refl })

  pub back_opened : Opened ws back
  back_opened = record { len = came.long ∙ w.len; at = λ i h. came.low i h ∙ w.low i h }

-- The types of an impl parameter are nodes of the generics' table.
pub record ParamIn (a : rules.Finder) (p : Query) : Type 0 where
  pub few : p.n ≤ 4
  pub inside : AllIn (length (impl_params a.sheet a.generics).0) (query_of p).1

-- It is met with the question behind slot 4.
pub record Behind (s ws : Words) (o : ImplType × Types) (q : ImplType) (r : Outcome Bool Refusal) (out : Words) : Type 0 where
  pub opened : Opened ws out
  pub meets : Meets s o q r (drop 6410 out)

-- Its import.
abbrev pub brought : rules.Finder → Types → ImplType → ImplType × Types
brought a ts p = import_impl_type (impl_params a.sheet a.generics).0 none p ts

pub behind-met : (s ws us ys : Words) (f : Finder) (q p : Query) (r : Outcome Bool Refusal) → Written ws us 6410 (types_of ws, end) → length ys ≡ length (part 6410 us) →
    Meets s (import_impl_type (impl_params s f.generics).0 none (query_of p) (types_of (part 6410 us))) (query_of q) r ys →
    Behind s ws (brought (finder_of s f) (types_of ws) (query_of p)) (query_of q) r (put_mid 6410 (length us - 6410) us ys)
behind-met s ws us ys f q p r w kept m =
    let t = back-table ws us ys w kept m.packed in
    let n = subst (λ (ts : Types). Meets s (import_impl_type (impl_params s f.generics).0 none (query_of p) ts) (query_of q) r ys) (part-table 6410 us (types_of ws) w.slot.table).is m in
    record {
      opened = back_opened ws us ys w kept;
      meets = record {
        packed = t.packed;
        full = n.full;
        unfit = n.unfit;
        fits = λ e. let g = n.fits e in record { room = g.room; met = g.met; types = t.is ∙ g.types };
      };
    }
