-- Worked file names, over the definitions of section 6.
use Rattle.std.specs.Prelude.{◌≡◌, [], ◌∷◌, refl, Some, None}
use Rattle.numbers.specs.Names.{area_id_from_file_name}

-- nodes489.ynd
name_0 : area_id_from_file_name (110 ∷ 111 ∷ 100 ∷ 101 ∷ 115 ∷ 52 ∷ 56 ∷ 57 ∷ 46 ∷ 121 ∷ 110 ∷ 100 ∷ []) ≡ Some 489
unfolding area_id_from_file_name
name_0 = refl

-- a/b\NODES0489.YND
name_1 : area_id_from_file_name (97 ∷ 47 ∷ 98 ∷ 92 ∷ 78 ∷ 79 ∷ 68 ∷ 69 ∷ 83 ∷ 48 ∷ 52 ∷ 56
    ∷ 57 ∷ 46 ∷ 89 ∷ 78 ∷ 68 ∷ []) ≡ Some 489
unfolding area_id_from_file_name
name_1 = refl

-- nodes+7.ynd
name_2 : area_id_from_file_name (110 ∷ 111 ∷ 100 ∷ 101 ∷ 115 ∷ 43 ∷ 55 ∷ 46 ∷ 121 ∷ 110 ∷ 100 ∷ []) ≡ Some 7
unfolding area_id_from_file_name
name_2 = refl

-- nodes.ynd
name_3 : area_id_from_file_name (110 ∷ 111 ∷ 100 ∷ 101 ∷ 115 ∷ 46 ∷ 121 ∷ 110 ∷ 100 ∷ []) ≡ None
unfolding area_id_from_file_name
name_3 = refl

-- nodes+.ynd
name_4 : area_id_from_file_name (110 ∷ 111 ∷ 100 ∷ 101 ∷ 115 ∷ 43 ∷ 46 ∷ 121 ∷ 110 ∷ 100 ∷ []) ≡ None
unfolding area_id_from_file_name
name_4 = refl

-- nodes-1.ynd
name_5 : area_id_from_file_name (110 ∷ 111 ∷ 100 ∷ 101 ∷ 115 ∷ 45 ∷ 49 ∷ 46 ∷ 121 ∷ 110 ∷ 100 ∷ []) ≡ None
unfolding area_id_from_file_name
name_5 = refl

-- nodes++1.ynd
name_6 : area_id_from_file_name (110 ∷ 111 ∷ 100 ∷ 101 ∷ 115 ∷ 43 ∷ 43 ∷ 49 ∷ 46 ∷ 121 ∷ 110 ∷ 100 ∷ []) ≡ None
unfolding area_id_from_file_name
name_6 = refl

-- nodes4294967295.ynd
name_7 : area_id_from_file_name (110 ∷ 111 ∷ 100 ∷ 101 ∷ 115 ∷ 52 ∷ 50 ∷ 57 ∷ 52 ∷ 57 ∷ 54 ∷ 55
    ∷ 50 ∷ 57 ∷ 53 ∷ 46 ∷ 121 ∷ 110 ∷ 100 ∷ []) ≡ Some 4294967295
unfolding area_id_from_file_name
name_7 = refl

-- nodes4294967296.ynd
name_8 : area_id_from_file_name (110 ∷ 111 ∷ 100 ∷ 101 ∷ 115 ∷ 52 ∷ 50 ∷ 57 ∷ 52 ∷ 57 ∷ 54 ∷ 55
    ∷ 50 ∷ 57 ∷ 54 ∷ 46 ∷ 121 ∷ 110 ∷ 100 ∷ []) ≡ None
unfolding area_id_from_file_name
name_8 = refl

-- nodes00000000000000000001.ynd
name_9 : area_id_from_file_name (110 ∷ 111 ∷ 100 ∷ 101 ∷ 115 ∷ 48 ∷ 48 ∷ 48 ∷ 48 ∷ 48 ∷ 48 ∷ 48
    ∷ 48 ∷ 48 ∷ 48 ∷ 48 ∷ 48 ∷ 48 ∷ 48 ∷ 48 ∷ 48 ∷ 48 ∷ 48 ∷ 48 ∷ 49 ∷ 46 ∷ 121 ∷ 110
    ∷ 100 ∷ []) ≡ Some 1
unfolding area_id_from_file_name
name_9 = refl

-- x/nodes5.ynd/
name_10 : area_id_from_file_name (120 ∷ 47 ∷ 110 ∷ 111 ∷ 100 ∷ 101 ∷ 115 ∷ 53 ∷ 46 ∷ 121 ∷ 110
    ∷ 100 ∷ 47 ∷ []) ≡ None
unfolding area_id_from_file_name
name_10 = refl

-- nodes5.yndx
name_11 : area_id_from_file_name (110 ∷ 111 ∷ 100 ∷ 101 ∷ 115 ∷ 53 ∷ 46 ∷ 121 ∷ 110 ∷ 100 ∷ 120 ∷ []) ≡ None
unfolding area_id_from_file_name
name_11 = refl

-- xnodes5.ynd
name_12 : area_id_from_file_name (120 ∷ 110 ∷ 111 ∷ 100 ∷ 101 ∷ 115 ∷ 53 ∷ 46 ∷ 121 ∷ 110 ∷ 100 ∷ []) ≡ None
unfolding area_id_from_file_name
name_12 = refl

--
name_13 : area_id_from_file_name ([]) ≡ None
unfolding area_id_from_file_name
name_13 = refl

-- node.ynd
name_14 : area_id_from_file_name (110 ∷ 111 ∷ 100 ∷ 101 ∷ 46 ∷ 121 ∷ 110 ∷ 100 ∷ []) ≡ None
unfolding area_id_from_file_name
name_14 = refl
